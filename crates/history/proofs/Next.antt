-- What a history is asked before a step is answered rightly. Assumes nothing.
use Rattle.std.proofs.Common.{◌≡◌, ℕ, ◌*◌, ◌<◌, Bool, true, false, List, take, is_some, is_ok, IsTrue, Option, Some, None, refl, sym, ap, ◌∙◌, subst, arith}
use Rattle.std.proofs.lemmas.Bool.{both_ways, false_from_ne_true}
use Rattle.theory.specs.Literals.{complement, names}
use Rattle.theory.specs.Meaning.{Meaning, Lawful}
use Rattle.rules.specs.declared.step.Step.{Step}
use Rattle.rules.specs.declared.step.Step.TheVariants as step
use Rattle.rules.specs.States.{State, literals, asserted}
use Rattle.rules.specs.Rules.{is_possible}
use Rattle.rules.specs.Moves.{denying}
use Rattle.rules.specs.Next.{Ready, Unready, ToBeHad}
use Rattle.rules.proofs.Invariant.{Facts, possible_from_is}
use Rattle.rules.proofs.Trails.{asserted_names, complement_named}
use Rattle.rules.proofs.Words.{claim_on, claim_off, impossible_from}
use Rattle.rules.proofs.Reached.{reached_known}
use Rattle.rules.proofs.Progress.{Settled, ready_goes, unready_settled, fit_goes, clash_goes, to_be_had}
use Rattle.trail.specs.Trails.{push_says}
use Rattle.table.specs.declared.table.Table.{Table}
use Rattle.table.specs.Tables.{state_of, claims_of}
use Rattle.table.proofs.Next.{fresh_from, fresh_to}
use Rattle.history.specs.Asking.{Asked}
use Rattle.history.specs.Links.{Linked}
use Rattle.history.specs.Next.{Implied}

module _ (M : Meaning) (law : Lawful M) {xs : List ℕ} {t : Table} {sure : Bool} (k : Linked M xs t sure) where
  abbrev s : State
  s = state_of t

  F : Facts M s
  F = (reached_known M law s k.reached).facts

  -- ---- a step that is to be had

  pub ready_had : {x : Step} → Ready (claims_of t) s x → ToBeHad M s x
  ready_had {x} r = to_be_had M law s F x (ready_goes M law s F M.terms (subst (λ n. Ready n s x) (sym k.claims) r))

  settled : Unready (claims_of t) s → Settled M law s F
  settled u = unready_settled M law s F (subst (λ n. Unready n s) (sym k.claims) u)

  pub fit_had : Unready (claims_of t) s → is_possible (M.answer (asserted s.trail)) ≡ true → ToBeHad M s (step.Fit M.terms)
  fit_had u p = to_be_had M law s F (step.Fit M.terms) (fit_goes M law s F M.terms (omega arith) (settled u) (possible_from_is (M.answer (asserted s.trail)) p))

  pub clash_had : Unready (claims_of t) s → is_possible (M.answer (asserted s.trail)) ≡ false → ToBeHad M s step.Clash
  clash_had u p = to_be_had M law s F step.Clash (clash_goes M law s F M.terms (settled u) (impossible_from (M.answer (asserted s.trail)) p))

  -- ---- a literal that follows by the theory

  -- where the literal may go on the trail, its complement may be asked
  pub denial_off : (l : ℕ) → is_ok (push_says (claims_of t) s.trail l) ≡ true → names xs (complement l) ≡ false
  denial_off l h = ap (λ ys. names ys (complement l)) k.same ∙ asserted_names s.trail (complement l) ∙ complement_named (literals s.trail) l ∙ (fresh_from (claims_of t) s.trail l h).1

  pub implied_asked : (l : ℕ) → is_ok (push_says (claims_of t) s.trail l) ≡ true → (place : List ℕ) (r : Option ℕ) → Asked M (denying s.trail l) place r
      → (IsTrue (is_some r) → Implied M s l) × (Implied M s l → IsTrue (is_some r))
  implied_asked l h place r a = go r a
    where
      go : (r : Option ℕ) → Asked M (denying s.trail l) place r → (IsTrue (is_some r) → Implied M s l) × (Implied M s l → IsTrue (is_some r))
      go None a = (λ q. absurd (both_ways false refl q), λ i. let e = i.follows.1 in absurd (cc))
      go (Some len) a =
          let f = fresh_from (claims_of t) s.trail l h in
          (λ q. record { of_claims = subst (λ n. l < 2 * n) (sym k.claims) f.0; off_trail = claim_off s.trail l f.1; follows = (take len place, a) }, λ i. refl)

  pub implied_not : (l : ℕ) → is_ok (push_says (claims_of t) s.trail l) ≡ false → Implied M s l → ⊥
  implied_not l h i =
      absurd (both_ways (is_ok (push_says (claims_of t) s.trail l)) h (fresh_to (claims_of t) s.trail l (subst (λ n. l < 2 * n) k.claims i.of_claims)
      (false_from_ne_true (names (literals s.trail) l) (λ n. i.off_trail (claim_on s.trail l n)))))
