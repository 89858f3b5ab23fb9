-- Rows of numbers for the prefixes of a list of bounds, and the marks of a cycle. Assumes nothing.
use Rattle.std.specs.Prelude.{◌≡◌, ℕ, ◌+◌, ◌*◌, ◌<◌, min, Bool, List, length, take, drop, ℤ}
use Rattle.theory.specs.Positions.{marked}
use Rattle.difference.specs.declared.bound.Bound.{Bound}
use Rattle.difference.specs.Settling.{outcome, fits, clash}

-- row j of many rows of m numbers each
abbrev pub part : ℕ → ℕ → List ℤ → List ℤ
part m j rows = take m (drop (j * m) rows)

-- each prefix of the first `good` bounds is possible, and its row holds the greatest fit
abbrev pub Possible : ℕ → List Bound → List ℤ → ℕ → Type 0
Possible m bs rows good = (j : ℕ) → outcome m (take (min j good) bs) ≡ fits (part m (min j good) rows)

-- with one more they are not, and a cycle is marked
abbrev pub Broken : ℕ → List Bound → ℕ → List Bool → Type 0
Broken m bs good marks = good < length bs → outcome m (take (good + 1) bs) ≡ clash (marked marks)
