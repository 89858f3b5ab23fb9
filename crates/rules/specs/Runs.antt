-- Runs: steps one after another, each judged in the state that the one before it left. Assumes nothing.
use Rattle.std.specs.Prelude.{ℕ, List, [], ◌∷◌, Result}
use Rattle.theory.specs.Meaning.{Meaning}
use Rattle.rules.specs.declared.step.Step.{Step}
use Rattle.rules.specs.declared.refusal.Refusal.{Refusal}
use Rattle.rules.specs.States.{State, says, leaves}
use Rattle.rules.specs.Rules.{judge}

abbrev pub after : Meaning → State → Step → State
after M s x = leaves s (judge M s x)

abbrev pub run : Meaning → State → List Step → State
run M s [] = s
run M s (x ∷ xs) = run M (after M s x) xs

-- what the steps of a run return
abbrev pub answers : Meaning → State → List Step → List (Result ℕ Refusal)
answers M s [] = []
answers M s (x ∷ xs) = says (judge M s x) ∷ answers M (after M s x) xs
