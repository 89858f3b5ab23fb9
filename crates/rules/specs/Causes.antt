-- The refusals of a step, as a table: for each kind its causes in their order, each a fact with its refusal. A step
-- is refused by
-- the first cause that holds. Assumes nothing.
use Rattle.std.specs.Prelude.{◌≡◌, ℕ, ◌*◌, ◌<◌, ◌≤◌, ◌≢◌, ◌⊎◌, List, [], ◌∷◌, ◌++◌, Some, None, Contains}
use Rattle.theory.specs.Meaning.{Meaning}
use Rattle.rules.specs.declared.entry.Reason.TheVariants.{Decided}
use Rattle.rules.specs.declared.entry.Entry.{Entry}
use Rattle.rules.specs.declared.step.Step.{Step}
use Rattle.rules.specs.declared.step.Step.TheVariants.{Decide, Propagate, Imply, Conflict, Clash, Resolve, Jump, Forget, Fit, NoFit}
use Rattle.rules.specs.declared.refusal.Refusal.{Refusal}
use Rattle.rules.specs.declared.refusal.Refusal.TheVariants as refusal
use Rattle.rules.specs.States.{State, asserted}
use Rattle.rules.specs.Moves.{FalseOn, ClaimOn, Live, NotLive, IsLearned, IsReason, SomeTrue, Possible, Impossible, denying, Latest, OneAbove}

-- a row of the table: a cause, and what is answered where it holds; the number of each refusal is in Refusals
pub record Row : Type 1 where
  pub Cause : Type 0
  pub refusal : Refusal

abbrev pub row : Type 0 → Refusal → Row
row Cause refusal = record { Cause = Cause; refusal = refusal }

-- the first cause that holds is refused so
abbrev pub First : List Row → Refusal → Type 0
First [] r = ⊥
First (row ∷ rows) r = (row.Cause × (r ≡ row.refusal)) ⊎ ((¬ row.Cause) × First rows r)

-- what refuses to put a literal on the trail
abbrev pub taken : Meaning → State → ℕ → List Row
taken M s l =
    row (s.conflict ≢ None) refusal.ConflictStands
    ∷ row (2 * M.claims ≤ l) refusal.NoSuchLiteral
    ∷ row (ClaimOn s.trail l) refusal.ClaimOnTrail
    ∷ []

abbrev pub causes : Meaning → State → Step → List Row
causes M s (Decide l) = taken M s l
causes M s (Propagate c l) =
    taken M s l
    ++ row (NotLive s c) refusal.NotLive
    ∷ row ((R : List ℕ) × Live s c R × (¬ Contains R l)) refusal.LacksLiteral
    ∷ row ((R : List ℕ) × (m : ℕ) × Live s c R × Contains R m × (m ≢ l) × (¬ FalseOn s.trail m)) refusal.NotFalse
    ∷ []
causes M s (Imply l) =
    taken M s l
    ++ row (Impossible M (asserted s.trail)) refusal.TrailImpossible
    ∷ row (Possible M (denying s.trail l)) refusal.NotImplied
    ∷ []
causes M s (Conflict c) =
    row (s.conflict ≢ None) refusal.ConflictStands
    ∷ row (NotLive s c) refusal.NotLive
    ∷ row ((R : List ℕ) × (m : ℕ) × Live s c R × Contains R m × (¬ FalseOn s.trail m)) refusal.NotFalse
    ∷ []
causes M s Clash =
    row (s.conflict ≢ None) refusal.ConflictStands
    ∷ row (Possible M (asserted s.trail)) refusal.TrailPossible
    ∷ []
causes M s Resolve =
    row (s.conflict ≡ None) refusal.NoConflict
    ∷ row (s.conflict ≡ Some []) refusal.ConflictEmpty
    ∷ row ((C : List ℕ) × (e : Entry) × (before : List Entry) × (s.conflict ≡ Some C) × Latest C s.trail e before × (e.reason ≡ Decided)) refusal.LatestDecided
    ∷ []
causes M s (Jump k c) =
    row (s.conflict ≡ None) refusal.NoConflict
    ∷ row ((C : List ℕ) (m : ℕ) → s.conflict ≡ Some C → OneAbove k C s.trail m → ⊥) refusal.NotOneAbove
    ∷ row ((¬ IsLearned c) ⊎ ((R : List ℕ) × Live s c R)) refusal.NumberNotFree
    ∷ []
causes M s (Forget c) =
    row (NotLive s c) refusal.NotLive
    ∷ row (c < 512) refusal.BookClause
    ∷ row (IsReason s.trail c) refusal.IsReason
    ∷ []
causes M s (Fit len) =
    row (s.conflict ≢ None) refusal.ConflictStands
    ∷ row ((i : ℕ) × (i < M.claims) × (¬ ClaimOn s.trail (2 * i))) refusal.ClaimOffTrail
    ∷ row ((R : List ℕ) × Contains s.book R × (¬ SomeTrue s.trail R)) refusal.ClauseNotTrue
    ∷ row (Impossible M (asserted s.trail)) refusal.TrailImpossible
    ∷ row (len < M.terms) refusal.ShortFitPlace
    ∷ []
causes M s NoFit =
    row (s.conflict ≡ None) refusal.NoConflict
    ∷ row ((C : List ℕ) × (s.conflict ≡ Some C) × (C ≢ [])) refusal.ConflictNotEmpty
    ∷ []

-- every step first: a verdict stands, or the allowance is used up
abbrev pub table : Meaning → State → Step → List Row
table M s x =
    row (s.verdict ≢ None) refusal.VerdictStands
    ∷ row (s.count ≡ s.allowance) refusal.AllowanceUsed
    ∷ causes M s x
