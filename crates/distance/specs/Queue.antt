-- The bounds that a row breaks, as positions in a queue. Assumes nothing.
use Rattle.std.specs.Prelude.{◌≡◌, ℕ, ◌<◌, ◌≤◌, Bool, true, ◌⊎◌, List, length, filter, ℤ, pos, ◌≤ℤ◌, ◌<ℤ◌, int_lt, Option, Some, None}
use Rattle.theory.specs.Literals.{has}
use Rattle.difference.specs.declared.bound.Bound.{Bound}
use Rattle.difference.specs.Bounds.{at}
use Rattle.difference.specs.Settling.{lowered, excess, worst}
use Rattle.distance.specs.Index.{based}

-- whether a row breaks the bound at a position
abbrev pub breaks : List ℤ → List Bound → ℕ → Bool
breaks row bs q = int_lt (pos 0) (excess row (at bs q))

-- each bound that a row breaks is among some positions
abbrev pub Covers : List ℤ → List Bound → List ℕ → Type 0
Covers row bs qs = (q : ℕ) → q < length bs → breaks row bs q ≡ true → has qs q ≡ true

-- the bounds with the base x that a row breaks, the latest first
abbrev pub broken_on : List ℤ → List Bound → ℕ → List ℕ
broken_on row bs x = filter (breaks row bs) (based bs x (length bs))

-- the bounds that a row breaks once the bound at p has lowered its term
abbrev pub now_broken : List ℤ → List Bound → ℕ → List ℕ
now_broken row bs p = broken_on (lowered row (at bs p)) bs (at bs p).term

-- of the bound broken most so far, if any, and one that is broken, each by its position and how far, the one that is broken
-- more, or of two alike the earlier
pub record Leading (best : Option (ℕ × ℤ)) (b r : ℕ × ℤ) : Type 0 where
  pub one : (r ≡ b) ⊎ (best ≡ Some r)
  pub most : b.1 ≤ℤ r.1
  pub first : b.1 ≡ r.1 → r.0 ≤ b.0
  pub no_less : (a : ℕ × ℤ) → best ≡ Some a → a.1 ≤ℤ r.1
  pub no_later : (a : ℕ × ℤ) → best ≡ Some a → a.1 ≡ r.1 → r.0 ≤ a.0

-- what is picked: nothing if nothing is broken, and else the position of the bound broken most, the first of several, and
-- how far it is broken
abbrev pub Picked : List ℤ → List Bound → Option (ℕ × ℤ) → Type 0
Picked row bs None = (worst row bs).1 ≤ℤ pos 0
Picked row bs (Some w) = (w ≡ worst row bs) × (pos 0 <ℤ w.1)
