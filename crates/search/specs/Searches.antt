-- What a search gives. Assumes nothing.
use Rattle.std.specs.Prelude.{◌≡◌, ◌≢◌, ℕ, ◌<◌, ◌≤◌, List, [], ◌∷◌, length, ℤ, Option}
use Rattle.theory.specs.Meaning.{Meaning}
use Rattle.theory.specs.Calls.{over}
use Rattle.rules.specs.declared.step.Step.{Step}
use Rattle.rules.specs.declared.refusal.Refusal.{Refusal}
use Rattle.rules.specs.declared.refusal.Refusal.TheVariants.{ShortFitPlace}
use Rattle.rules.specs.declared.refusal.Unopened.{Unopened}
use Rattle.rules.specs.declared.refusal.Unopened.TheVariants.{Refused, NoMemory}
use Rattle.rules.specs.Clauses.{Book}
use Rattle.rules.specs.States.{State, opened}
use Rattle.rules.specs.Moves.{Moves}
use Rattle.rules.specs.Histories.{FitKeeping, NoFitKeeps, most_steps}
use Rattle.clauses.specs.Rows.{Formed, Barred}
use Rattle.search.specs.declared.outcome.Outcome.{Outcome}
use Rattle.search.specs.declared.outcome.Outcome.TheVariants.{Spent, Fit, NoFit}
use Rattle.search.specs.Recorders.{grown}

-- some steps lead from one state to another, each by a rule
abbrev pub Leads : Meaning → State → List Step → State → Type 0
Leads M s [] s' = s ≡ s'
Leads M s (x ∷ xs) s' = (next : State) × Moves M s x next × Leads M next xs s'

-- what an outcome says of the book, of the steps that were taken, and of the caller's place before and after
abbrev pub Says : Meaning → List (List ℕ) → ℕ → List Step → List ℤ → List ℤ → Outcome → Type 0
Says M book allowance steps place after Spent = (length steps ≡ allowance) × (after ≡ place)
Says M book allowance steps place after Fit = (v : List ℤ) × FitKeeping M book v × (after ≡ over v place)
Says M book allowance steps place after NoFit = NoFitKeeps M book × (after ≡ place)

-- the book in the row, and a history of it that ends with the outcome
pub record Found (M : Meaning) (row : List ℕ) (allowance : ℕ) (place after : List ℤ) (seen seen' : Option (List Step)) (outcome : Outcome) (count : ℕ) : Type 0 where
  pub book : List (List ℕ)
  pub formed : Formed row book
  pub steps : List Step
  pub last : State
  pub leads : Leads M (opened book allowance) steps last
  pub counted : count ≡ length steps
  pub recorded : seen' ≡ grown seen steps
  pub says : Says M book allowance steps place after outcome
  -- it takes no more steps than these, and with an allowance of as many it is never spent
  pub bounded : count ≤ most_steps M.claims
  pub enough : most_steps M.claims ≤ allowance → outcome ≢ Spent

-- why nothing is searched: opening would be refused; then, the place for a fit is too short; or no memory is left
pub data NotSearched (M : Meaning) (row : List ℕ) (place : List ℤ) : Unopened → Type 0 where
  barred : (r : Refusal) → Barred M.claims row r → NotSearched M row place (Refused r)
  short : (book : List (List ℕ)) → Formed row book → Book M.claims book → length place < M.terms → NotSearched M row place (Refused ShortFitPlace)
  no_memory : (book : List (List ℕ)) → Formed row book → Book M.claims book → NotSearched M row place NoMemory
