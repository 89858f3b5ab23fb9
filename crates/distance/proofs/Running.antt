-- A row that is settled by way of a queue, one turn after another. Assumes nothing.
use Rattle.std.proofs.Common.{◌≡◌, ℕ, ◌+◌, ◌-◌, ◌<◌, ◌≤◌, List, [], ◌∷◌, ◌++◌, length, take, set, ℤ, pos, ◌<ℤ◌, filter, sym, subst, arith}
use Rattle.std.proofs.lemmas.Int.{ints}
use Rattle.std.proofs.lemmas.List.{length-append}
use Rattle.theory.specs.Meaning.{num}
use Rattle.difference.specs.declared.bound.Bound.{Bound}
use Rattle.difference.specs.Bounds.{at, Named}
use Rattle.difference.specs.Settling.{limit, excess, worst, outcome, fits}
use Rattle.difference.proofs.Worst.{bounds, worst_is}
use Rattle.difference.proofs.Outcome.{Start, Going, was_old, going_on, base_apart}
use Rattle.difference.proofs.Whole.{going}
use Rattle.difference.proofs.Depth.{front_start, front_keeps}
use Rattle.distance.specs.Queue.{breaks, broken_on}
use Rattle.distance.proofs.Turning.{worst_far}
use Rattle.distance.proofs.Waiting.{Waiting, waiting_few, waiting_last, waiting_on}

-- no term was lowered twice, and the queue has what is broken
pub record Running (bs : List Bound) (u : ℕ) (old row : List ℤ) (steps qs : List ℕ) : Type 0 where
  pub gap : ℤ
  pub goes : Going (length old) bs u old row steps gap
  pub waiting : Waiting row bs qs

module _ (bs : List Bound) (u : ℕ) (old : List ℤ) (some : 0 < length bs) (named : Named (length old) bs)
    (u_is : u ≡ (at bs (length bs - 1)).base) (before : outcome (length old) (take (length bs - 1) bs) ≡ fits old) where
  start : Start (length old) bs u old
  start = subst (λ z. Start (length old) bs z old) (sym u_is) (front_start (length old) bs old some named before)

  pub run_start : Running bs u old old [] ((length bs - 1) ∷ [])
  run_start = record {
    gap = (worst old bs).1;
    goes = going (length old) bs u old start;
    waiting = waiting_last old bs some (front_keeps (length old) bs old some named before);
  }

  module _ (row : List ℤ) (steps qs : List ℕ) (g : Running bs u old row steps qs)
      (p : ℕ) (p_is : p ≡ (worst row bs).0) (broken : pos 0 <ℤ (worst row bs).1) (free : (at bs p).term ≡ u → ⊥) where
    within : p < length bs
    within = omega (arith, (worst_is row bs broken).0, p_is)

    far_is : (worst row bs).1 ≡ excess row (at bs p)
    far_is = worst_far row bs p p_is broken

    same : num row (at bs p).term ≡ num old (at bs p).term
    same = was_old (length old) bs u old start row steps g.gap g.goes p (worst row bs).1 within far_is broken (bounds row 0 (0, pos 0) bs) free

    pub run_on : Running bs u old (set row (at bs p).term (limit row (at bs p))) (steps ++ p ∷ [])
        (filter (breaks row bs) qs ++ broken_on (set row (at bs p).term (limit row (at bs p))) bs (at bs p).term)
    run_on = record {
      gap = (worst row bs).1;
      goes = going_on (length old) bs u old start row steps g.gap g.goes p (worst row bs).1 within far_is broken (bounds row 0 (0, pos 0) bs) free;
      waiting = waiting_on row bs qs (at bs p).term (limit row (at bs p)) g.waiting (omega (arith, (named p within).0, g.goes.long)) (omega (arith, ints, far_is, broken))
          (base_apart (length old) bs u old start row steps g.gap g.goes (at bs p).term free same);
    }

    -- there is room for it
    pub run_room : length (filter (breaks row bs) qs) + length (broken_on (set row (at bs p).term (limit row (at bs p))) bs (at bs p).term) ≤ length bs
    run_room =
        let new : List ℕ = broken_on (set row (at bs p).term (limit row (at bs p))) bs (at bs p).term in
        omega (arith, waiting_few run_on.waiting, length-append (filter (breaks row bs) qs) new)
