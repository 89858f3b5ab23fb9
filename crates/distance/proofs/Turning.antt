-- A loop that settles a row, one turn after another. Assumes nothing.
use Rattle.std.proofs.Common.{◌≡◌, ℕ, zero, suc, ◌+◌, ◌-◌, ◌<◌, true, false, cond, eqb, List, [], ◌∷◌, ◌++◌, length, set, ℤ, pos, ◌≤ℤ◌, ◌<ℤ◌, sym, refl, ap, ◌∙◌, arith}
use lib.Signed.{lt_z}
use Rattle.std.proofs.lemmas.Int.{ints}
use Rattle.std.proofs.lemmas.Bool.{cond-true, cond-false, eq-eqb, ne_eqb}
use Rattle.std.proofs.lemmas.List.{length-set}
use Rattle.std.proofs.ByRecursion.{All-push}
use Rattle.std.specs.List.{AllByRecursion}
use Rattle.difference.specs.declared.bound.Bound.{Bound}
use Rattle.difference.specs.Bounds.{at, Each, Named}
use Rattle.difference.specs.Settling.{limit, excess, worst, core, Outcome, fits, clash, turn, settle}
use Rattle.difference.specs.Depth.{Small, Inside}
use Rattle.difference.proofs.Worst.{worst_is}
use Rattle.difference.proofs.Depth.{inside_on, inside_weaker}

pub record Turning (bs : List Bound) (u : ℕ) (old row : List ℤ) (steps : List ℕ) (done left : ℕ) : Type 0 where
  pub whole : settle bs u (length old + 1) old [] ≡ settle bs u left row steps
  pub long : length row ≡ length old
  pub count : done + left ≡ length old + 1
  pub inside : Inside (39000 + done) row
  pub positions : AllByRecursion (λ q. q < length bs) steps

settle_more : (bs : List Bound) (u left : ℕ) (row : List ℤ) (steps : List ℕ) → 0 < left → settle bs u left row steps ≡ turn bs u (settle bs u (left - 1)) row steps (worst row bs)
unfolding settle
settle_more bs u zero row steps h = absurd (omega arith)
settle_more bs u (suc k) row steps h =
    let e : k ≡ suc k - 1 = omega arith in ap (λ n. turn bs u (settle bs u n) row steps (worst row bs)) e

-- how far the worst bound is broken
pub worst_far : (row : List ℤ) (bs : List Bound) (p : ℕ) → p ≡ (worst row bs).0 → pos 0 <ℤ (worst row bs).1 → (worst row bs).1 ≡ excess row (at bs p)
worst_far row bs p p_is broken = (worst_is row bs broken).1 ∙ ap (λ n. excess row (at bs n)) (sym p_is)

pub turn_start : (bs : List Bound) (u : ℕ) (row : List ℤ) → Inside 39000 row → Turning bs u row row [] 0 (length row + 1)
turn_start bs u row h = record { whole = refl; long = refl; count = omega arith; inside = inside_weaker 39000 (39000 + 0) row (omega arith) h; positions = tt }

module _ (bs : List Bound) (u : ℕ) (old row : List ℤ) (steps : List ℕ) (done left : ℕ) (g : Turning bs u old row steps done left) where
  pub turn_end : left ≡ 0 → settle bs u (length old + 1) old [] ≡ fits row
  unfolding settle
  turn_end e = g.whole ∙ ap (λ n. settle bs u n row steps) e

  pub turn_fits : 0 < left → (worst row bs).1 ≤ℤ pos 0 → settle bs u (length old + 1) old [] ≡ fits row
  unfolding turn
  turn_fits h w =
      let t : lt_z (pos 0) (worst row bs).1 ≡ false = grind (arith, ints) in
      g.whole ∙ settle_more bs u left row steps h ∙ cond-false (lt_z (pos 0) (worst row bs).1) _ (fits row) t

  module _ (p : ℕ) (h : 0 < left) (p_is : p ≡ (worst row bs).0) (broken : pos 0 <ℤ (worst row bs).1) where
    pub turn_within : p < length bs
    turn_within = omega (arith, (worst_is row bs broken).0, p_is)

    inner : ℕ → Outcome
    inner q = cond (eqb (at bs q).term u) (clash (core bs steps q)) (settle bs u (left - 1) (set row (at bs q).term (limit row (at bs q))) (steps ++ q ∷ []))

    opened : settle bs u (length old + 1) old [] ≡ inner p
    unfolding turn inner
    opened =
        let t : lt_z (pos 0) (worst row bs).1 ≡ true = grind (arith, ints) in
        g.whole ∙ settle_more bs u left row steps h ∙ cond-true (lt_z (pos 0) (worst row bs).1) (inner (worst row bs).0) (fits row) t ∙ ap inner (sym p_is)

    pub turn_clash : (at bs p).term ≡ u → settle bs u (length old + 1) old [] ≡ clash (core bs steps p)
    unfolding inner
    turn_clash e = opened ∙ cond-true (eqb (at bs p).term u) (clash (core bs steps p)) (settle bs u (left - 1) (set row (at bs p).term (limit row (at bs p))) (steps ++ p ∷ [])) (eq-eqb (at bs p).term u e)

    pub turn_on : Named (length old) bs → Each Small bs → ((at bs p).term ≡ u → ⊥) → Turning bs u old (set row (at bs p).term (limit row (at bs p))) (steps ++ p ∷ []) (done + 1) (left - 1)
    unfolding inner
    turn_on named small ne =
        let f : _ = named p turn_within in
        record {
          whole = opened ∙ cond-false (eqb (at bs p).term u) (clash (core bs steps p)) (settle bs u (left - 1) (set row (at bs p).term (limit row (at bs p))) (steps ++ p ∷ [])) (ne_eqb (at bs p).term u ne);
          long = length-set row (at bs p).term (limit row (at bs p)) ∙ g.long;
          count = omega (arith, g.count, h);
          inside = inside_weaker ((39000 + done) + 1) (39000 + (done + 1)) (set row (at bs p).term (limit row (at bs p))) (omega arith)
              (inside_on (39000 + done) row (at bs p) g.inside (omega (arith, f.1, g.long)) (small p turn_within) (omega (arith, f.0, g.long)) (omega (arith, ints, worst_far row bs p p_is broken, broken)));
          positions = All-push (λ q. q < length bs) steps p g.positions turn_within;
        }
