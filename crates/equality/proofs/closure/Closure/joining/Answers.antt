use Rattle.std.proofs.Common.{◌≡◌, ℕ, ◌<◌, ◌≤◌, true, false, List, length, vec_items, sym, ap, subst, arith, rules}
use Rattle.std.proofs.lemmas.List.Sorted.{IsPartitionPoint-from_clause}
use Rattle.std.specs.List.Sorted.{IsPartitionedBy, IsPartitionPoint}
use Rattle.equality.specs.declared.closure.Closure.{Closure}
use Rattle.equality.proofs.Joining.{differ, rows_after, parted, below, joins}
use Rattle.equality.proofs.closure.Closure.joining.Goals as goal

more_rows : (s : Closure) → length (vec_items s.steps) < length (vec_items s.rows)
more_rows s = omega (arith, s.few, s.rows_long)

rows_are : (c : goal.After-partition_point) → rows_after c.deref.result.now c.args.upto ≡ rows_after c.args.self.now.rows.items c.args.upto
rows_are c = ap (λ (rows : List (List ℕ)). rows_after rows c.args.upto) c.deref.ensures.value

-- the rows in which the labels differ come before those in which they do not
point : (c : goal.After-partition_point)
    → IsPartitionPoint (λ x. differ c.args.t c.args.u x ≡ true) (λ x. differ c.args.t c.args.u x ≡ false) (rows_after c.args.self.now.rows.items c.args.upto) c.partition_point.result
point c =
    let s = c.args.self.now in
    subst (λ (rows : List (List ℕ)). IsPartitionPoint (λ x. differ c.args.t c.args.u x ≡ true) (λ x. differ c.args.t c.args.u x ≡ false) rows c.partition_point.result) (rows_are c)
    (IsPartitionPoint-from_clause (differ c.args.t c.args.u) (rows_after c.deref.result.now c.args.upto) c.partition_point.result c.partition_point.ensures.partitioned
    (subst (λ (rows : List (List ℕ)). IsPartitionedBy (differ c.args.t c.args.u) rows) (sym (rows_are c))
    (parted s.steps.items s.rows.items c.args.t c.args.u c.args.upto s.tabled (more_rows s) c.requires.upto c.requires.near c.requires.far))
    (λ a r q k. search rules))

low : (c : goal.After-partition_point) → c.partition_point.result ≤ length (rows_after c.args.self.now.rows.items c.args.upto)
low c = omega (arith, c.partition_point.ensures.bound, ap length (rows_are c))

pub returns-clause-below : goal.returns-clause-below
returns-clause-below c =
    let s = c.args.self.now in
    below s.steps.items s.rows.items c.args.t c.args.u c.args.upto s.tabled (more_rows s) c.requires.upto c.requires.near c.requires.far c.requires.apart c.requires.together c.partition_point.result (low c) (point c)

pub returns-clause-joins : goal.returns-clause-joins
returns-clause-joins c =
    let s = c.args.self.now in
    joins s.steps.items s.rows.items c.args.t c.args.u c.args.upto s.tabled (more_rows s) c.requires.upto c.requires.near c.requires.far c.requires.apart c.requires.together c.partition_point.result (low c) (point c)
