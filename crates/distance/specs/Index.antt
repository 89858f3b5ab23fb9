-- The bounds of a list by their base. Assumes nothing.
use Rattle.std.specs.Prelude.{◌≡◌, ℕ, zero, suc, ◌<◌, List, [], ◌∷◌, length, ◌==◌, slice_index_or, Option, Some, None}
use Rattle.theory.specs.Positions.{put}
use Rattle.difference.specs.declared.bound.Bound.{Bound}
use Rattle.difference.specs.Bounds.{at}

-- of the first k bounds those with the base x, by position, the latest first
unfoldable pub based : List Bound → ℕ → ℕ → List ℕ
based bs x zero = []
based bs x (suc k) = put ((at bs k).base == x) k (based bs x k)

-- the first of some positions
abbrev pub first : List ℕ → Option ℕ
first [] = None
first (q ∷ qs) = Some q

-- for each term, the latest of the first k bounds with that base
abbrev pub Heads : List Bound → ℕ → List (Option ℕ) → Type 0
Heads bs k row = (x : ℕ) → x < length row → slice_index_or row x None ≡ first (based bs x k)

-- for each bound, the latest one before it with the same base
abbrev pub Nexts : List Bound → List (Option ℕ) → Type 0
Nexts bs row = (q : ℕ) → q < length bs → slice_index_or row q None ≡ first (based bs (at bs q).base q)

-- the bounds from a link on: that bound, and those before it with the same base
abbrev pub onward : List Bound → Option ℕ → List ℕ
onward bs None = []
onward bs (Some q) = q ∷ based bs (at bs q).base q
