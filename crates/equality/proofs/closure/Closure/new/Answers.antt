use Rattle.std.proofs.Common.{◌≡◌, ℕ, ◌+◌, ◌<◌, List, [], length, get_or, replicate, sym, ap, ◌∙◌, arith}
use Rattle.std.specs.List.{each_same}
use Rattle.std.proofs.lemmas.List.{get_or-replicate, length-replicate}
use Rattle.equality.specs.Logs.{cell, label_at}
use Rattle.equality.proofs.closure.Closure.new.Goals as goal

-- each row has the labels before any merge
rows_are : (c : goal.In_ok-rows) → c.in_ok-rows.rows.items ≡ replicate (length c.args.table.records.now + 1) c.own_labels.result
rows_are c = c.in_ok-rows.ensures.items_if_clones_equal (λ y e. each_same c.own_labels.result y e.whole)

own_cell : (c : goal.In_ok-rows) (k t : ℕ) → k < length c.args.table.records.now + 1 → t < 256 → cell c.in_ok-rows.rows.items k t ≡ t
own_cell c k t h few =
    ap (λ (rows : List (List ℕ)). cell rows k t) (rows_are c)
    ∙ ap (λ (row : List ℕ). get_or row t 0) (get_or-replicate (length c.args.table.records.now + 1) k c.own_labels.result [] h) ∙ c.own_labels.ensures t few

pub invariant_of-closure-clause-tabled : goal.invariant_of-closure-clause-tabled
invariant_of-closure-clause-tabled c k t h few =
    let none : k ≡ 0 = omega (arith, h, ap length c.in_ok-steps.ensures.items) in
    own_cell c k t (omega (arith, none)) few ∙ sym (ap (λ (n : ℕ). label_at c.in_ok-steps.steps.items n t) none)

pub invariant_of-closure-clause-own : goal.invariant_of-closure-clause-own
invariant_of-closure-clause-own c k t h past few =
    own_cell c k t (omega (arith, h, ap length (rows_are c), length-replicate (length c.args.table.records.now + 1) c.own_labels.result)) few
