use Rattle.std.proofs.Common.{◌≡◌, ℕ, ◌-◌, ◌<◌, true, false, ◌||◌, List, length, get_or, set, take, vec_items, sym, ap, ◌∙◌, arith}
use Rattle.std.proofs.lemmas.List.{get_or_read, length-set}
use Rattle.std.proofs.ByRecursion.{All-get_or}
use Rattle.theory.specs.Literals.{has}
use Rattle.difference.specs.Settling.{back}
use Rattle.difference.specs.declared.bound.Bound.{Bound}
use Rattle.difference.specs.Bounds.{no_bound, at}
use Rattle.distance.proofs.Marking.{back_then, back_else, back_end, some_left, one_less, step_is, front_less}
use Rattle.distance.proofs.settle.Work.mark_cycle.Goals as goal
use Rattle.distance.proofs.settle.Work.mark_cycle.Goals.{After-index-b, In-Some}

-- the step is the latest of those that are left
module _ (c : In-Some) where
  some : 0 < length c.loop-q.q-iterator.iter.rest.now
  some = some_left (vec_items c.args.self.now.steps) c.loop-q.q-iterator.iter.rest.now c.next.new.self.iter.rest.now c.in-Some.field-0.now c.in-Some.ensures.steps c.loop-q.invariant.1 c.loop-q.invariant.2

  less : length c.next.new.self.iter.rest.now ≡ length c.loop-q.q-iterator.iter.rest.now - 1
  less = one_less (vec_items c.args.self.now.steps) c.loop-q.q-iterator.iter.rest.now c.next.new.self.iter.rest.now c.in-Some.field-0.now c.in-Some.ensures.steps c.loop-q.invariant.1 c.loop-q.invariant.2

  is_step : c.in-Some.field-0.now ≡ get_or (vec_items c.args.self.now.steps) (length c.loop-q.q-iterator.iter.rest.now - 1) 0
  is_step = step_is (vec_items c.args.self.now.steps) c.loop-q.q-iterator.iter.rest.now c.next.new.self.iter.rest.now c.in-Some.field-0.now c.in-Some.ensures.steps c.loop-q.invariant.1 c.loop-q.invariant.2

  step_in : get_or (vec_items c.args.self.now.steps) (length c.loop-q.q-iterator.iter.rest.now - 1) 0 < length (vec_items c.args.self.now.bounds.items)
  step_in =
      All-get_or (λ q. q < length (vec_items c.args.self.now.bounds.items)) (vec_items c.args.self.now.steps) (length c.loop-q.q-iterator.iter.rest.now - 1) 0
      (omega (arith, c.loop-q.invariant.2, some)) c.requires.positions

  front : c.next.new.self.iter.rest.now ≡ take (length c.next.new.self.iter.rest.now) (vec_items c.args.self.now.steps)
  front = front_less (vec_items c.args.self.now.steps) c.loop-q.q-iterator.iter.rest.now c.next.new.self.iter.rest.now c.in-Some.field-0.now c.in-Some.ensures.steps c.loop-q.invariant.1 c.loop-q.invariant.2

b_is : (c : After-index-b) → c.index-b.result.now ≡ at (vec_items c.args.self.now.bounds.items) (get_or (vec_items c.args.self.now.steps) (length c.loop-q.q-iterator.iter.rest.now - 1) 0)
b_is c =
    let d = (goal.at.After-index-b c).In-Some in
    get_or_read (vec_items c.args.self.now.bounds.items) c.in-Some.field-0.now c.index-b.result.now (omega (arith, is_step d, step_in d)) c.index-b.ensures no_bound
    ∙ ap (at (vec_items c.args.self.now.bounds.items)) (is_step d)

pub loop-q-preserved-then-b-x : goal.loop-q-preserved-then-b-x
loop-q-preserved-then-b-x c =
    let bs : List Bound = vec_items c.args.self.now.bounds.items in
    let steps : List ℕ = vec_items c.args.self.now.steps in
    let rest : List ℕ = c.loop-q.q-iterator.iter.rest.now in
    let rest' : List ℕ = c.next.new.self.iter.rest.now in
    let d = (goal.at.loop-q-preserved-then-b-x c).In-Some in
    let b = b_is (goal.at.loop-q-preserved-then-b-x c).After-index-b in
    let e : (at bs (get_or steps (length rest - 1) 0)).term ≡ c.loop-q.x = ap (λ (b : Bound). b.term) (sym b) ∙ c.if-b-x.true in
    let l : get_or steps (length rest - 1) 0 < length c.loop-q.marks = omega (arith, step_in d, c.requires.long, c.loop-q.auto.marks, length-set c.fill.new.self c.args.p true, c.fill.ensures.len) in (
      λ q. ap (λ i. get_or (set c.loop-q.marks i true) q false || has (back bs steps (length rest') c.index-b.result.now.base) q) (is_step d)
          ∙ ap (λ k. get_or (set c.loop-q.marks (get_or steps (length rest - 1) 0) true) q false || has (back bs steps k c.index-b.result.now.base) q) (less d)
          ∙ ap (λ (b : Bound). get_or (set c.loop-q.marks (get_or steps (length rest - 1) 0) true) q false || has (back bs steps (length rest - 1) b.base) q) b
          ∙ sym (back_then bs steps (length rest) c.loop-q.x (some d) c.loop-q.marks q e l) ∙ c.loop-q.invariant.0 q,
      front d,
      omega (arith, less d, c.loop-q.invariant.2),
    )

pub loop-q-preserved : goal.loop-q-preserved
loop-q-preserved c =
    let bs : List Bound = vec_items c.args.self.now.bounds.items in
    let steps : List ℕ = vec_items c.args.self.now.steps in
    let rest : List ℕ = c.loop-q.q-iterator.iter.rest.now in
    let d = (goal.at.loop-q-preserved c).In-Some in
    let ne : (at bs (get_or steps (length rest - 1) 0)).term ≡ c.loop-q.x → ⊥ = λ e. c.if-b-x.false (ap (λ (b : Bound). b.term) (b_is (goal.at.loop-q-preserved c).After-index-b) ∙ e) in (
      λ q. ap (λ k. get_or c.loop-q.marks q false || has (back bs steps k c.loop-q.x) q) (less d)
          ∙ sym (back_else bs steps (length rest) c.loop-q.x (some d) c.loop-q.marks q ne) ∙ c.loop-q.invariant.0 q,
      front d,
      omega (arith, less d, c.loop-q.invariant.2),
    )

pub returns : goal.returns
returns c = λ q. back_end (vec_items c.args.self.now.bounds.items) (vec_items c.args.self.now.steps) (length c.loop-q.q-iterator.iter.rest.now) c.loop-q.x c.loop-q.marks q c.in-None.ensures.steps.0 ∙ c.loop-q.invariant.0 q
