-- A search under way. Assumes nothing.
use Rattle.std.specs.Prelude.{◌≡◌, ◌≤◌, ℕ, List, length, ℤ, Option, Some, None}
use Rattle.theory.specs.Meaning.{Meaning}
use Rattle.theory.specs.Calls.{over}
use Rattle.rules.specs.declared.step.Step.{Step}
use Rattle.rules.specs.declared.step.Verdict.{Verdict}
use Rattle.rules.specs.declared.step.Verdict.TheVariants as verdict
use Rattle.rules.specs.States.{State, asserted}
use Rattle.search.specs.declared.outcome.Outcome.{Outcome}
use Rattle.search.specs.Outcomes.{outcome_of}
use Rattle.search.specs.Recorders.{grown}
use Rattle.search.specs.Searches.{Leads}

-- numbers are written over a place only where the verdict is fit
abbrev pub filled_by : Option Verdict → List ℤ → List ℤ → List ℤ
filled_by None v place = place
filled_by (Some verdict.Fit) v place = over v place
filled_by (Some verdict.NoFit) v place = place

-- what a place holds once a state is come to
abbrev pub filled : Meaning → State → List ℤ → List ℤ
filled M s place = filled_by s.verdict (M.written (asserted s.trail)) place

-- accepted steps led from one state to another, the recorder has seen them, and the place is filled
pub record Ran (M : Meaning) (start now : State) (before after : List ℤ) (seen seen' : Option (List Step)) : Type 0 where
  pub steps : List Step
  pub leads : Leads M start steps now
  pub recorded : seen' ≡ grown seen steps
  pub place : after ≡ filled M now before

-- nothing is left to do: a verdict stands, or the allowance is used up
abbrev pub Over : State → Type 0
Over s = s.verdict ≡ None → s.allowance ≤ s.count

-- the search has ended, with room for a fit, which a caller's place was then filled with
pub record Settled (M : Meaning) (start now : State) (place after : List ℤ) (seen seen' : Option (List Step)) (outcome : Outcome) : Type 0 where
  pub room : List ℤ
  pub fit : List ℤ
  pub long : M.terms ≡ length room
  pub ran : Ran M start now room fit seen seen'
  pub over : Over now
  pub put : after ≡ filled_by now.verdict fit place
  pub outcome_is : outcome ≡ outcome_of now.verdict
