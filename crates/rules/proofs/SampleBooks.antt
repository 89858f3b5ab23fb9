-- Sample books, computed. Assumes nothing.
use Rattle.std.proofs.Common.{◌≡◌, ℕ, List, [], ◌∷◌, Some, Ok, Err, Result, refl, sym, ap, subst}
use Rattle.theory.specs.Meaning.{Answer, possible, impossible, Meaning}
use Rattle.theory.specs.Positions.{listed}
use Rattle.rules.specs.declared.step.Step.{Step}
use Rattle.rules.specs.declared.step.Step.TheVariants.{Decide, Propagate, Conflict, Clash, Resolve, Jump, Fit, NoFit}
use Rattle.rules.specs.declared.step.Verdict.{Verdict}
use Rattle.rules.specs.declared.step.Verdict.TheVariants as verdict
use Rattle.rules.specs.declared.refusal.Refusal.{Refusal}
use Rattle.rules.specs.declared.refusal.Refusal.TheVariants.{NoConflict, NotOneAbove, TrailImpossible, TrailPossible}
use Rattle.rules.specs.States.{State, opened, Outcome, says, leaves}
use Rattle.rules.specs.Rules.{blame, is_possible, conflicting, ending, demand, given, judge}
use Rattle.rules.specs.Runs.{run, answers}
use Rattle.rules.specs.Samples.{Gives, Blank, Learning, Clashing, Samples}

-- a theory with its numbers of claims and terms written out, so that the steps compute
abbrev sized : ℕ → ℕ → Meaning → Meaning
sized n m M = record M { claims = n; terms = m }

sized_same : (n m : ℕ) (M : Meaning) → M.claims ≡ n → M.terms ≡ m → sized n m M ≡ M
sized_same n m M a b = λ i. record M { claims = sym a i; terms = sym b i }

-- one step, and the rest
gives_step : (M : Meaning) (s : State) (x : Step) (xs : List Step) (o : Outcome) (told : List (Result ℕ Refusal)) (v : Verdict) → judge M s x ≡ o
    → Gives M (leaves s o) xs told v → Gives M s (x ∷ xs) (says o ∷ told) v
gives_step M s x xs o told v e h =
    subst (λ (w : Outcome). (says w ∷ answers M (leaves s w) xs ≡ says o ∷ told) × ((run M (leaves s w) xs).verdict ≡ Some v)) (sym e) (ap (λ t. says o ∷ t) h.0, h.1)

sized_learning : (M : Meaning) → M.answer (1 ∷ 3 ∷ []) ≡ possible → Learning (sized 2 3 M)
unfolding listed
sized_learning M h =
    let last = gives_step (sized 2 3 M) before (Fit 3) [] (Ok (ending before verdict.Fit)) [] verdict.Fit (ap at h) (refl, refl) in
    (ap (λ t. Ok 1 ∷ Ok 2 ∷ Ok 3 ∷ Err NotOneAbove ∷ Ok 4 ∷ Ok 5 ∷ Ok 6 ∷ t) last.0, last.1)
  where
    before : State
    before = run (sized 2 3 M) (opened ((1 ∷ 2 ∷ []) ∷ (1 ∷ 3 ∷ []) ∷ []) 7) (Decide 0 ∷ Propagate 0 2 ∷ Conflict 1 ∷ Resolve ∷ Jump 0 512 ∷ Decide 3 ∷ [])

    at : Answer → Outcome
    at a = demand (is_possible a) TrailImpossible (Ok (ending before verdict.Fit))

sized_clashing : (M : Meaning) → M.answer (0 ∷ 3 ∷ []) ≡ impossible (0 ∷ 1 ∷ []) → Clashing (sized 2 M.terms M)
unfolding listed
sized_clashing M h =
    let rest = gives_step (sized 2 M.terms M) before Clash (Resolve ∷ Resolve ∷ NoFit ∷ []) (Ok (conflicting before (1 ∷ 2 ∷ []))) (Ok 4 ∷ Ok 5 ∷ Ok 6 ∷ []) verdict.NoFit (ap at h) (refl, refl) in
    (ap (λ t. Ok 1 ∷ Ok 2 ∷ Err NoConflict ∷ t) rest.0, rest.1)
  where
    before : State
    before = run (sized 2 M.terms M) (opened ((0 ∷ []) ∷ (3 ∷ []) ∷ []) 7) (Propagate 0 0 ∷ Propagate 1 3 ∷ [])

    at : Answer → Outcome
    at a = given (blame (0 ∷ 3 ∷ []) a) TrailPossible (λ R. Ok (conflicting before R))

sized_blank : (M : Meaning) → M.answer [] ≡ possible → Blank (sized 0 0 M)
sized_blank M h = rw h (refl, refl)

pub samples : (M : Meaning) → Samples M
unfolding listed
samples M = record {
  blank = λ a b h. subst Blank (sized_same 0 0 M a b) (sized_blank M h);
  empty_clause = (refl, refl);
  learning = λ a b h. subst Learning (sized_same 2 3 M a b) (sized_learning M h);
  clashing = λ a h. subst Clashing (sized_same 2 M.terms M a refl) (sized_clashing M h);
}
