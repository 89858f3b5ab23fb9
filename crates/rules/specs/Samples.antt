-- Sample books, as facts about every theory that answers as they say. Assumes nothing.
use Rattle.std.specs.Prelude.{◌≡◌, ℕ, List, [], ◌∷◌, Some, Result, Ok, Err}
use Rattle.theory.specs.Meaning.{possible, impossible, Meaning}
use Rattle.rules.specs.declared.step.Step.{Step}
use Rattle.rules.specs.declared.step.Step.TheVariants.{Decide, Propagate, Conflict, Clash, Resolve, Jump, Fit, NoFit}
use Rattle.rules.specs.declared.step.Verdict.{Verdict}
use Rattle.rules.specs.declared.step.Verdict.TheVariants as verdict
use Rattle.rules.specs.declared.refusal.Refusal.{Refusal}
use Rattle.rules.specs.declared.refusal.Refusal.TheVariants.{NoConflict, NotOneAbove}
use Rattle.rules.specs.States.{State, opened}
use Rattle.rules.specs.Runs.{run, answers}

-- what the steps return from a state on, and the verdict at their end
abbrev pub Gives : Meaning → State → List Step → List (Result ℕ Refusal) → Verdict → Type 0
Gives M s steps told verdict = (answers M s steps ≡ told) × ((run M s steps).verdict ≡ Some verdict)

-- no clause
abbrev pub Blank : Meaning → Type 0
Blank M = Gives M (opened [] 7) (Fit 0 ∷ []) (Ok 1 ∷ []) verdict.Fit

-- one empty clause
abbrev pub EmptyClause : Meaning → Type 0
EmptyClause M = Gives M (opened ([] ∷ []) 7) (Conflict 0 ∷ NoFit ∷ []) (Ok 1 ∷ Ok 2 ∷ []) verdict.NoFit

-- two clauses with a claim in common; a jump too early is refused
abbrev pub Learning : Meaning → Type 0
Learning M =
    Gives M (opened ((1 ∷ 2 ∷ []) ∷ (1 ∷ 3 ∷ []) ∷ []) 7) (Decide 0 ∷ Propagate 0 2 ∷ Conflict 1 ∷ Jump 0 512 ∷ Resolve ∷ Jump 0 512 ∷ Decide 3 ∷ Fit 3 ∷ [])
    (Ok 1 ∷ Ok 2 ∷ Ok 3 ∷ Err NotOneAbove ∷ Ok 4 ∷ Ok 5 ∷ Ok 6 ∷ Ok 7 ∷ []) verdict.Fit

-- two clauses of one literal; no fit is refused before the clash
abbrev pub Clashing : Meaning → Type 0
Clashing M =
    Gives M (opened ((0 ∷ []) ∷ (3 ∷ []) ∷ []) 7) (Propagate 0 0 ∷ Propagate 1 3 ∷ NoFit ∷ Clash ∷ Resolve ∷ Resolve ∷ NoFit ∷ [])
    (Ok 1 ∷ Ok 2 ∷ Err NoConflict ∷ Ok 3 ∷ Ok 4 ∷ Ok 5 ∷ Ok 6 ∷ []) verdict.NoFit

pub record Samples (M : Meaning) : Type 0 where
  pub blank : M.claims ≡ 0 → M.terms ≡ 0 → M.answer [] ≡ possible → Blank M
  pub empty_clause : EmptyClause M
  pub learning : M.claims ≡ 2 → M.terms ≡ 3 → M.answer (1 ∷ 3 ∷ []) ≡ possible → Learning M
  pub clashing : M.claims ≡ 2 → M.answer (0 ∷ 3 ∷ []) ≡ impossible (0 ∷ 1 ∷ []) → Clashing M
