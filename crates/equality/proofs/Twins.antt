-- The nearest congruent term, by a walk along the index. Assumes nothing.
use Rattle.std.proofs.Common.{◌≡◌, ℕ, ◌<◌, ◌≤◌, true, not, eqb, List, Some, None, Option, sym, refl, ap, ◌∙◌, ⊎_elim, arith}
use Rattle.std.proofs.lemmas.Bool.{cases_Bool, eq-eqb, ne_eqb, and_from, and_left, and_right, not_from_true, not_from_false}
use Rattle.theory.specs.declared.term.Term.{Term}
use Rattle.theory.specs.Terms.{at}
use Rattle.congruence.specs.Table.{arg}
use Rattle.congruence.specs.Congruence.{Congruent}
use Rattle.congruence.specs.Merges.{when, alike, twin_at, twin, last}
use Rattle.congruence.proofs.Closing.{alike_true, alike_from}
use Rattle.equality.specs.Index.{SameHead, nearest}
use Rattle.equality.proofs.Nearest.{last_skip, last_none, last_here, last_past, left, Found, nearest_found, above}

-- where the walk stands: what is left is at the term that was found, or below it
pub record Walked (ts : List Term) (num : ℕ → ℕ) (t : ℕ) (o : Option ℕ) : Type 0 where
  pub found : Found ts t o
  pub rest : twin ts num t ≡ last (left o) (twin_at ts num t)

module _ (ts : List Term) (num : ℕ → ℕ) (t : ℕ) where
  same : (u : ℕ) → num t ≡ num u → twin_at ts num t u ≡ None
  same u e = ap (λ b. when b u) (and_left (not (eqb (num t) (num u))) (alike ts num t u) (not_from_true _ (eq-eqb (num t) (num u) e)))

  unlike : (u : ℕ) → (Congruent ts num t u → ⊥) → twin_at ts num t u ≡ None
  unlike u n = ap (λ b. when b u) (and_right (not (eqb (num t) (num u))) (alike ts num t u)
      (⊎_elim (λ (q : alike ts num t u ≡ true). absurd (n (alike_true ts num t u q))) (λ q. q) (cases_Bool (alike ts num t u))))

  -- on from a term with the head of `t`, below which the rest lies
  skip : (u : ℕ) → u ≤ t → SameHead ts t u → twin ts num t ≡ last u (twin_at ts num t) → Walked ts num t (nearest ts u)
  skip u h (s, a) e =
      let n = above ts u in
      record {
        found = λ v q. let w = nearest_found ts u v q in (omega (arith, h, w.0), (s ∙ w.1.0, a ∙ w.1.1));
        rest = e ∙ last_skip u (left (nearest ts u)) (twin_at ts num t) n.0
            (λ w x y. unlike w (λ c. n.1 w x y (sym s ∙ c.0, sym a ∙ c.1)));
      }

  pub walk_start : Walked ts num t (nearest ts t)
  walk_start = skip t (omega arith) (refl, refl) refl

  module _ (u : ℕ) (w : Walked ts num t (Some u)) where
    pub walk_hit : (num t ≡ num u → ⊥) → ((i : ℕ) → i < (at ts t).arity → num (arg (at ts t) i) ≡ num (arg (at ts u) i)) → twin ts num t ≡ Some u
    walk_hit a c =
        let h = (w.found u refl).1 in
        w.rest ∙ last_here u (twin_at ts num t) u
        (ap (λ b. when b u) (and_from _ _ (not_from_false _ (ne_eqb (num t) (num u) a)) (alike_from ts num t u (h.0, h.1, c))))

    on : twin_at ts num t u ≡ None → Walked ts num t (nearest ts u)
    on e = let h = w.found u refl in skip u (omega (arith, h.0)) h.1 (w.rest ∙ last_past u (twin_at ts num t) e)

    pub walk_same : num t ≡ num u → Walked ts num t (nearest ts u)
    walk_same e = on (same u e)

    pub walk_other : (((i : ℕ) → i < (at ts t).arity → num (arg (at ts t) i) ≡ num (arg (at ts u) i)) → ⊥) → Walked ts num t (nearest ts u)
    walk_other n = on (unlike u (λ c. n c.2))

  pub walk_end : Walked ts num t None → twin ts num t ≡ None
  walk_end w = w.rest ∙ last_none (twin_at ts num t)
