-- What ties `judge`, which the code meets, to the rules and the table of causes: whoever believes those need not read
-- it.
-- Assumes nothing.
use Rattle.std.specs.Prelude.{◌≡◌, ◌↔◌, ℕ, Result, Ok, Err}
use Rattle.theory.specs.Meaning.{Meaning}
use Rattle.rules.specs.declared.step.Step.{Step}
use Rattle.rules.specs.declared.refusal.Refusal.{Refusal}
use Rattle.rules.specs.States.{State, says}
use Rattle.rules.specs.Moves.{Moves}
use Rattle.rules.specs.Causes.{First, table}
use Rattle.rules.specs.Rules.{judge}
use Rattle.rules.specs.Histories.{Reached}

-- what a step may be answered: the count of the state that a rule leads to, or the refusal of the first cause
abbrev pub Answered : Meaning → State → Step → Result ℕ Refusal → Type 0
Answered M s x (Ok count) = (s' : State) × Moves M s x s' × (s'.count ≡ count)
Answered M s x (Err refusal) = First (table M s x) refusal

-- a step is accepted exactly if a rule has it, and refused exactly by the first cause that holds
pub record JudgedRightly (M : Meaning) (s : State) (x : Step) : Type 0 where
  pub accepted : (s' : State) → (judge M s x ≡ Ok s') ↔ Moves M s x s'
  pub refused : (r : Refusal) → (judge M s x ≡ Err r) ↔ First (table M s x) r
  pub answered : Answered M s x (says (judge M s x))

-- in every state that some steps lead to, of every step
abbrev pub StepsStand : Meaning → Type 0
StepsStand M = (s : State) → Reached M s → (x : Step) → JudgedRightly M s x
