-- What stands of every history. Assumes nothing.
use Rattle.std.specs.Prelude.{◌≡◌, ◌≢◌, ℕ, ◌+◌, ◌*◌, ◌^◌, ◌<◌, ◌≤◌, List, [], ◌∷◌, ℤ, None, IfSome, Contains, is_ok, if◌then◌else◌}
use Rattle.theory.specs.Literals.{Proper}
use Rattle.theory.specs.Meaning.{Meaning, Fit}
use Rattle.rules.specs.declared.entry.Reason.TheVariants.{Decided}
use Rattle.rules.specs.declared.entry.Entry.{Entry}
use Rattle.rules.specs.declared.step.Step.{Step}
use Rattle.rules.specs.declared.step.Step.TheVariants as step
use Rattle.rules.specs.declared.step.Verdict.{Verdict}
use Rattle.rules.specs.declared.step.Verdict.TheVariants as verdict
use Rattle.rules.specs.Kinds.{verdict_number}
use Rattle.rules.specs.Clauses.{KeepsAll, Book}
use Rattle.rules.specs.States.{State, opened, asserted}
use Rattle.rules.specs.Moves.{At, FalseAll, FalseBut, Explained, Moves}
use Rattle.rules.specs.Rules.{judge}
use Rattle.rules.specs.Runs.{after, run}

-- the most steps that a history over `n` claims accepts
abbrev pub most_steps : ℕ → ℕ
most_steps n = (n + 4) * 3 ^ n

-- a step with numbers that a caller can give, where the place for a fit has `len` numbers
abbrev pub CanPropose : ℕ → Step → Type 0
CanPropose len (step.Decide l) = l < 2 ^ 16
CanPropose len (step.Propagate c l) = (c < 2 ^ 16) × (l < 2 ^ 16)
CanPropose len (step.Imply l) = l < 2 ^ 16
CanPropose len (step.Conflict c) = c < 2 ^ 16
CanPropose len step.Clash = Unit {0}
CanPropose len step.Resolve = Unit {0}
CanPropose len (step.Jump k c) = (k < 2 ^ 32) × (c < 2 ^ 16)
CanPropose len (step.Forget c) = c < 2 ^ 16
CanPropose len (step.Fit k) = k ≤ len
CanPropose len step.NoFit = Unit {0}

-- some step that a caller can propose is accepted
abbrev pub GoesOn : Meaning → State → ℕ → Type 0
GoesOn M s len = (x : Step) × CanPropose len x × ((s' : State) × Moves M s x s')

-- numbers that are a fit of the theory, and keep the book
abbrev pub FitKeeping : Meaning → List (List ℕ) → List ℤ → Type 0
FitKeeping M book v = Fit M v × KeepsAll M v book

-- no fit of the theory keeps the book
abbrev pub NoFitKeeps : Meaning → List (List ℕ) → Type 0
NoFitKeeps M book = (v : List ℤ) → Fit M v → ¬ KeepsAll M v book

-- a verdict: its number, and what it says of the book
abbrev pub VerdictSays : Meaning → State → Verdict → ℕ → Type 0
VerdictSays M s verdict.Fit number = (number ≡ 24) × FitKeeping M s.book (M.written (asserted s.trail))
VerdictSays M s verdict.NoFit number = (number ≡ 25) × NoFitKeeps M s.book

-- a conflict has literals of the theory's claims, no claim twice, and all are false
pub record ConflictStands (M : Meaning) (s : State) (C : List ℕ) : Type 0 where
  pub proper : Proper M.claims C
  pub falsified : FalseAll s.trail C

-- an entry that was not decided has a clause that explains it: its other literals were false before it
pub record Follows (M : Meaning) (s : State) (e : Entry) (before : List Entry) : Type 0 where
  pub by : List ℕ
  pub explains : Explained M s e before by
  pub own : Contains by e.literal
  pub others : FalseBut before e.literal by

-- what stands of a state that some steps lead to
pub record Stands (M : Meaning) (s : State) : Type 0 where
  -- a verdict is right: fit is said where what is written is a fit that keeps the book, and no fit where there is none
  pub verdict : IfSome s.verdict (λ v. VerdictSays M s v (verdict_number v))
  -- with no verdict, some allowance left and a place long enough, some step is accepted
  pub goes_on : s.verdict ≡ None → s.count < s.allowance → (len : ℕ) → M.terms ≤ len → GoesOn M s len
  -- the count is within the allowance and within a bound of its own
  pub allowed : s.count ≤ s.allowance
  pub bounded : s.count ≤ most_steps M.claims
  -- so an allowance of that many steps is never used up
  pub enough : most_steps M.claims ≤ s.allowance → s.count < s.allowance
  -- the trail has literals of the theory's claims, no claim twice
  pub trail : Proper M.claims (asserted s.trail)
  pub conflict : IfSome s.conflict (ConflictStands M s)
  pub follows : (e : Entry) (before : List Entry) → At s.trail e before → e.reason ≢ Decided → Follows M s e before

-- how many of the steps of a run are accepted
abbrev pub tally : Meaning → State → List Step → ℕ
tally M s [] = 0
tally M s (x ∷ xs) = (if is_ok (judge M s x) then 1 else 0) + tally M (after M s x) xs

-- what stands after some steps from an opening
pub record RunStands (M : Meaning) (book : List (List ℕ)) (allowance : ℕ) (steps : List Step) (s : State) : Type 0 where
  pub book_is : s.book ≡ book
  pub allowance_is : s.allowance ≡ allowance
  -- the count is the number of accepted steps
  pub counted : s.count ≡ tally M (opened book allowance) steps
  pub stands : Stands M s

-- every history over a theory: any book, any allowance, and any steps, refused ones included
abbrev pub HistoriesStand : Meaning → Type 0
HistoriesStand M =
    (book : List (List ℕ)) → Book M.claims book → (allowance : ℕ) (steps : List Step)
    → RunStands M book allowance steps (run M (opened book allowance) steps)

-- a state that some steps lead to, from a new history
abbrev pub Reached : Meaning → State → Type 0
Reached M s = ∥ ((book : List (List ℕ)) × (allowance : ℕ) × (steps : List Step) × Book M.claims book × (run M (opened book allowance) steps ≡ s)) ∥₁

-- so of every state that is reached
abbrev pub ReachedStand : Meaning → Type 0
ReachedStand M = (s : State) → Reached M s → Stands M s
