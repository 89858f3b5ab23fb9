-- How the greatest fit of a list of bounds, or a negative cycle, is found: a function of the list alone. Assumes nothing.
use Rattle.std.specs.Prelude.{ℕ, zero, suc, ◌+◌, Bool, if◌then◌else◌, List, [], ◌∷◌, ◌++◌, length, replicate, ℤ, pos, ◌+ℤ◌, ◌-ℤ◌, ◌==◌, int_lt, slice_index, slice_set}
use Rattle.theory.specs.Literals.{has}
use Rattle.theory.specs.Positions.{put, listed}
use Rattle.theory.specs.Meaning.{num}
use Rattle.difference.specs.declared.bound.Bound.{Bound}
use Rattle.difference.specs.Bounds.{at}

-- a fit, or else a core
pub data Outcome : Type 0 where
  fits : List ℤ → Outcome
  clash : List ℕ → Outcome

-- the greatest number that a bound lets its term have
abbrev pub limit : List ℤ → Bound → ℤ
limit row b = num row b.base +ℤ b.most

-- a row with the term of a bound lowered to what the bound allows
abbrev pub lowered : List ℤ → Bound → List ℤ
lowered row b = slice_set row b.term (limit row b)

-- how far a row breaks a bound
abbrev pub excess : List ℤ → Bound → ℤ
excess row b = num row b.term -ℤ limit row b

-- of the bound broken most so far and the next one, at position i, that which is broken more
abbrev pub worse : List ℤ → ℕ → ℕ × ℤ → Bound → ℕ × ℤ
worse row i best b = if int_lt best.1 (excess row b) then (i, excess row b) else best

unfoldable pub worst_from : List ℤ → ℕ → ℕ × ℤ → List Bound → ℕ × ℤ
worst_from row i best [] = best
worst_from row i best (b ∷ bs) = worst_from row (i + 1) (worse row i best b) bs

-- the bound that a row breaks most, the first of several: its position, and how far it is broken; 0 if none is
abbrev pub worst : List ℤ → List Bound → ℕ × ℤ
worst row bs = worst_from row 0 (0, pos 0) bs

-- ---- the cycle that a bound closes

-- whether the step numbered k lowered a term
abbrev pub lowers : List Bound → List ℕ → ℕ → ℕ → Bool
lowers bs steps k x = (at bs (slice_index steps k)).term == x

-- among the first k steps, those that led to x, from the latest back: what lowered x, what lowered that one's base, and so on
unfoldable pub back : List Bound → List ℕ → ℕ → ℕ → List ℕ
back bs steps zero x = []
back bs steps (suc k) x =
    put (lowers bs steps k x) (slice_index steps k)
    (back bs steps k (if lowers bs steps k x then (at bs (slice_index steps k)).base else x))

-- the bound at position p, and the steps that led to its base
abbrev pub around : List Bound → List ℕ → ℕ → List ℕ
around bs steps p = p ∷ back bs steps (length steps) (at bs p).base

-- their positions, rising
abbrev pub core : List Bound → List ℕ → ℕ → List ℕ
core bs steps p = listed 0 (length bs) (has (around bs steps p))

-- ---- settling

-- one step, of the bound that is broken most: it lowers its term, unless that is u, which closes a cycle
unfoldable pub turn : List Bound → ℕ → (List ℤ → List ℕ → Outcome) → List ℤ → List ℕ → ℕ × ℤ → Outcome
turn bs u rest row steps w =
    if int_lt (pos 0) w.1
    then (if (at bs w.0).term == u then clash (core bs steps w.0) else rest (lowered row (at bs w.0)) (steps ++ w.0 ∷ []))
    else fits row

-- lowers the term of the bound that is broken most to what it allows, until none is broken or u would be lowered
unfoldable pub settle : List Bound → ℕ → ℕ → List ℤ → List ℕ → Outcome
settle bs u zero row steps = fits row
settle bs u (suc k) row steps = turn bs u (settle bs u k) row steps (worst row bs)

-- with one more bound at the end: a cycle stays, and a fit is settled again, where the new bound's base is never lowered
abbrev pub add : ℕ → List Bound → Outcome → Bound → Outcome
add m seen (clash ps) b = clash ps
add m seen (fits row) b = settle (seen ++ b ∷ []) b.base (m + 1) row []

unfoldable pub outcome_from : ℕ → List Bound → Outcome → List Bound → Outcome
outcome_from m seen o [] = o
outcome_from m seen o (b ∷ bs) = outcome_from m (seen ++ b ∷ []) (add m seen o b) bs

-- the outcome of a list of bounds on m terms, from the row of zeros
abbrev pub outcome : ℕ → List Bound → Outcome
outcome m bs = outcome_from m [] (fits (replicate m (pos 0))) bs
