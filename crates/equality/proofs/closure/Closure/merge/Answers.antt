use Rattle.std.proofs.Common.{◌≡◌, ℕ, ◌<◌, List, length, vec_items, sym, ap, ◌∙◌, subst, arith}
use Rattle.std.specs.Vec.{with_items}
use Rattle.std.proofs.lemmas.List.{with_items_is}
use Rattle.congruence.specs.Merges.{label}
use Rattle.equality.specs.declared.closure.Closure.{Closure}
use Rattle.equality.specs.Logs.{log, label_at, Renamed}
use Rattle.equality.proofs.Growing.{Pushed, pushed, merges_room}
use Rattle.equality.proofs.closure.Closure.merge.Goals as goal
use Rattle.equality.proofs.closure.Closure.merge.Goals.{After-push_reserved}

-- there are fewer merges than terms
fewer : (s : Closure) (a : ℕ) → a < length s.terms.records.now → length (vec_items s.steps) < length s.terms.records.now
fewer s a h = merges_room s.terms.records.now s.steps.items a s.formed h

pub rename-requires-clause-next : goal.rename-requires-clause-next
rename-requires-clause-next c =
    let s = c.args.self.now in
    omega (arith, fewer s c.args.a c.requires.left, c.merges-k.ensures, s.rows_long, ap length c.deref_mut.ensures.value)

pub push_reserved-requires : goal.push_reserved-requires
push_reserved-requires c =
    let s = c.args.self.now in
    omega (arith, fewer s c.args.a c.requires.left, s.steps.ok.0, s.room)

-- what was written into the next row
renamed : (c : After-push_reserved)
    → Renamed c.args.self.now.rows.items c.rename.new.rows (length c.args.self.now.steps.items) (length c.args.self.now.terms.records.now) c.max-high.result c.min-low.result
renamed c =
    let s = c.args.self.now in
    let m = length s.terms.records.now in
    subst (λ (n : ℕ). Renamed s.rows.items c.rename.new.rows n m c.max-high.result c.min-low.result) c.merges-k.ensures
    (subst (λ (rows : List (List ℕ)). Renamed rows c.rename.new.rows c.merges-k.result m c.max-high.result c.min-low.result) c.deref_mut.ensures.value c.rename.ensures)

same_rows : (c : After-push_reserved) → (with_items c.args.self.now.rows c.rename.new.rows).items ≡ c.rename.new.rows
same_rows c = with_items_is c.args.self.now.rows c.rename.new.rows ((renamed c).long ∙ sym c.args.self.now.rows.ok.0)

more : (c : After-push_reserved)
    → Pushed c.args.self.now.terms.records.now c.args.self.now.steps.items c.push_reserved.new.self.items (with_items c.args.self.now.rows c.rename.new.rows).items c.args.a c.args.b c.args.reason
more c =
    let s = c.args.self.now in
    let ts = s.terms.records.now in
    let ss = s.steps.items in
    let high = c.max-high.result in
    let low = c.min-low.result in
    let at : (t : ℕ) → label_at ss c.merges-k.result t ≡ label (log ss) t = λ t. ap (λ (n : ℕ). label_at ss n t) c.merges-k.ensures in
    pushed ts ss c.push_reserved.new.self.items s.rows.items (with_items s.rows c.rename.new.rows).items c.args.a c.args.b high low c.args.reason c.push_reserved.ensures.items
    (subst (λ (rows : List (List ℕ)). Renamed s.rows.items rows (length ss) (length ts) high low) (sym (same_rows c)) (renamed c))
    s.formed (omega (arith, fewer s c.args.a c.requires.left, s.rows_long)) s.tabled s.own c.requires.left c.requires.right c.requires.apart c.requires.rests
    (omega (arith, c.max-high.ensures, c.label-x.ensures, c.label-y.ensures, at c.args.a, at c.args.b))
    (omega (arith, c.min-low.ensures, c.label-x.ensures, c.label-y.ensures, at c.args.a, at c.args.b))

pub invariant_of-self : goal.invariant_of-self
invariant_of-self c =
    let s = c.args.self.now in
    let w = more c in
    record {
      formed = w.formed;
      few = omega (arith, w.more, fewer s c.args.a c.requires.left);
      rows_long = ap length (same_rows c) ∙ (renamed c).long ∙ s.rows_long;
      tabled = w.tabled;
      own = w.own;
      room = omega (arith, s.room, c.push_reserved.ensures.capacity);
    }

pub returns-clause-ran : goal.returns-clause-ran
returns-clause-ran c = (more (goal.at.returns-clause-ran c).After-push_reserved).ran
