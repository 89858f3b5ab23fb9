-- Bounds on differences of whole numbers: which rows of numbers keep them, the greatest such row at or below 0, and the
-- cycles of bounds that no row keeps. Assumes nothing.
use Rattle.std.specs.Prelude.{◌≡◌, ℕ, ◌<◌, false, List, [], ◌∷◌, map, length, ℤ, pos, ◌+ℤ◌, ◌-ℤ◌, ◌≤ℤ◌, ◌<ℤ◌, slice_index_or}
use Rattle.theory.specs.Literals.{has}
use Rattle.theory.specs.Meaning.{Rising, num}
use Rattle.difference.specs.declared.bound.Bound.{Bound}

-- what stands past the end of a list of bounds
abbrev pub no_bound : Bound
no_bound = record { term = 0; base = 0; most = pos 0 }

-- the bound at a position of a list
abbrev pub at : List Bound → ℕ → Bound
at bs p = slice_index_or bs p no_bound

-- a bound is kept if its term's number minus its base's is at most its constant
abbrev pub Keeps : List ℤ → Bound → Type 0
Keeps row b = (num row b.term -ℤ num row b.base) ≤ℤ b.most

abbrev pub Each : (Bound → Type 0) → List Bound → Type 0
Each P bs = (p : ℕ) → p < length bs → P (at bs p)

-- each bound is on two of m terms
abbrev pub Named : ℕ → List Bound → Type 0
Named m bs = Each (λ b. (b.term < m) × (b.base < m)) bs

-- ---- fits

-- m numbers that keep all bounds
pub record Fit (m : ℕ) (bs : List Bound) (row : List ℤ) : Type 0 where
  pub long : length row ≡ m
  pub keeps : Each (Keeps row) bs

-- no number is above 0
abbrev pub Low : List ℤ → Type 0
Low row = (x : ℕ) → x < length row → num row x ≤ℤ pos 0

-- a fit at or below 0, and no other such fit is anywhere greater
pub record Greatest (m : ℕ) (bs : List Bound) (row : List ℤ) : Type 0 where
  pub fit : Fit m bs row
  pub low : Low row
  pub above : (f : List ℤ) → Fit m bs f → Low f → (x : ℕ) → x < m → num f x ≤ℤ num row x

-- ---- cycles

-- positions of bounds lead from the term x to the term y: the base of each bound is the term of the next
abbrev pub Leads : List Bound → ℕ → List ℕ → ℕ → Type 0
Leads bs x [] y = x ≡ y
Leads bs x (p ∷ ps) y = (p < length bs) × ((at bs p).term ≡ x) × Leads bs (at bs p).base ps y

-- the sum of their constants
abbrev pub total : List Bound → List ℕ → ℤ
total bs [] = pos 0
total bs (p ∷ ps) = (at bs p).most +ℤ total bs ps

-- no number twice
abbrev pub Distinct : List ℕ → Type 0
Distinct [] = Unit {0}
Distinct (x ∷ xs) = (has xs x ≡ false) × Distinct xs

-- a simple negative cycle: back to where it starts, by each term once, with a sum below 0
pub record NegativeCycle (bs : List Bound) (ps : List ℕ) : Type 0 where
  pub start : ℕ
  pub closed : Leads bs start ps start
  pub simple : Distinct (map (λ p. (at bs p).term) ps)
  pub negative : total bs ps <ℤ pos 0

-- a core: the positions of one simple negative cycle, rising
pub record Core (bs : List Bound) (core : List ℕ) : Type 0 where
  pub rises : Rising (length bs) core
  pub around : List ℕ
  pub cycle : NegativeCycle bs around
  pub same : (p : ℕ) → has core p ≡ has around p
