-- What a trail keeps beside its entries. Assumes nothing.
use Rattle.std.specs.Prelude.{◌≡◌, ℕ, ◌+◌, ◌<◌, List, Option, None, reverse, length, take, slice_index, slice_index_or}
use Rattle.rules.specs.declared.entry.Entry.{Entry}
use Rattle.rules.specs.States.{level}
use Rattle.trail.specs.Positions.{position_of}

-- the levels stand beside entries that have the oldest first
abbrev pub Leveled : List ℕ → List Entry → Type 0
Leveled levels es = (p : ℕ) → p < length es → slice_index levels p ≡ level (reverse (take (p + 1) es))

-- and so do the positions, by literal
abbrev pub Placed : List (Option ℕ) → List Entry → Type 0
Placed places es = (l : ℕ) → slice_index_or places l None ≡ position_of (reverse es) l
