-- Clauses: sets of literals. A fit keeps a clause if some literal of it holds in the fit, and a book if it keeps every
-- clause. Assumes nothing.
use Rattle.std.specs.Prelude.{ℕ, zero, suc, ◌≤◌, ◌+◌, Bool, true, ◌&&◌, List, [], ◌∷◌, ◌++◌, length, ℤ, Option, Some, None}
use Rattle.std.specs.List.{All, Contains}
use Rattle.theory.specs.Literals.{Proper}
use Rattle.theory.specs.Meaning.{Meaning}
use Rattle.theory.specs.Positions.{listed}

-- the set of the literals that pass a test, as the one list that has them rising; every literal is below 256
abbrev pub set_of : (ℕ → Bool) → List ℕ
set_of test = listed 0 256 test

-- a test of every number below a limit
abbrev pub all_below : ℕ → (ℕ → Bool) → Bool
all_below zero test = true
all_below (suc n) test = test n && all_below n test

-- the element of a list that has just one
abbrev pub only : {A : Type 0} → List A → Option A
only [] = None
only (x ∷ []) = Some x
only (x ∷ y ∷ ys) = None

abbrev pub Keeps : Meaning → List ℤ → List ℕ → Type 0
Keeps M v clause = (l : ℕ) × Contains clause l × M.Holds l v

abbrev pub KeepsAll : Meaning → List ℤ → List (List ℕ) → Type 0
KeepsAll M v book = All (Keeps M v) book

-- how many literals some clauses have
abbrev pub size : List (List ℕ) → ℕ
size [] = 0
size (c ∷ cs) = length c + size cs

-- a book: clauses, within the limits, of literals of n claims, no clause with a claim twice
pub record Book (n : ℕ) (book : List (List ℕ)) : Type 0 where
  pub few_clauses : length book ≤ 512
  pub few_literals : size book ≤ 4096
  pub clauses : All (Proper n) book

-- a book as one row of numbers: for each clause a count and then its literals
abbrev pub row_of : List (List ℕ) → List ℕ
row_of [] = []
row_of (c ∷ cs) = length c ∷ c ++ row_of cs
