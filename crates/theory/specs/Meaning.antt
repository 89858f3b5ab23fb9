-- What a theory means, and the law of every theory. Assumes nothing.
use Rattle.std.specs.Prelude.{◌≡◌, ℕ, ◌*◌, ◌<◌, ◌≤◌, ◌⊎◌, List, [], ◌∷◌, length, ℤ, pos, slice_index, slice_index_or}
use Rattle.std.specs.List.{All}
use Rattle.theory.specs.Literals.{complement, Proper}

-- what a theory answers of a list of literals; with impossible comes a core, positions on the list
pub data Answer : Type 0 where
  possible : Answer
  impossible : List ℕ → Answer

-- how many claims and terms there are; which lists of whole numbers the theory admits as fits, and which literals hold
-- in one; and what Query answers and Write puts down for a list of literals, so that one list always gets one core and
-- one fit
pub record Meaning : Type 1 where
  pub claims : ℕ
  pub terms : ℕ
  pub Admits : List ℤ → Type 0
  pub Holds : ℕ → List ℤ → Type 0
  pub answer : List ℕ → Answer
  pub written : List ℕ → List ℤ

-- a meaning, put together from what a theory has for each shape
abbrev pub assembled : {S : Type 0} → (S → ℕ) → (S → ℕ) → (S → List ℤ → Type 0) → (S → ℕ → List ℤ → Type 0)
    → (S → List ℕ → Answer) → (S → List ℕ → List ℤ) → S → Meaning
assembled claims terms fits holds answer written s = record {
  claims = claims s;
  terms = terms s;
  Admits = fits s;
  Holds = holds s;
  answer = answer s;
  written = written s;
}

-- the number of a term, in a list of numbers
abbrev pub num : List ℤ → ℕ → ℤ
num v t = slice_index_or v t (pos 0)

-- a fit: one whole number for each term, admitted by the theory
abbrev pub Fit : Meaning → List ℤ → Type 0
Fit M v = (length v ≡ M.terms) × M.Admits v

-- each number is above the one before it, and all are below a limit
abbrev pub Rising : ℕ → List ℕ → Type 0
Rising limit [] = Unit {0}
Rising limit (p ∷ []) = p < limit
Rising limit (p ∷ q ∷ ps) = (p < q) × Rising limit (q ∷ ps)

pub record Lawful (M : Meaning) : Type 0 where
  pub few_claims : M.claims ≤ 128
  pub few_terms : M.terms ≤ 256
  -- in each fit exactly one of a literal and its complement holds
  pub one_holds : (v : List ℤ) → Fit M v → (l : ℕ) → l < 2 * M.claims
      → M.Holds l v ⊎ M.Holds (complement l) v
  pub not_both : (v : List ℤ) → Fit M v → (l : ℕ) → l < 2 * M.claims
      → M.Holds l v → M.Holds (complement l) v → ⊥
  -- where the answer is possible, a fit is written in which every literal of the list holds
  pub possible_fit : (ls : List ℕ) → Proper M.claims ls → M.answer ls ≡ possible → Fit M (M.written ls)
  pub possible_holds : (ls : List ℕ) → Proper M.claims ls → M.answer ls ≡ possible
      → All (λ l. M.Holds l (M.written ls)) ls
  -- where it is impossible, the core's literals hold together in no fit
  pub core_rises : (ls core : List ℕ) → Proper M.claims ls → M.answer ls ≡ impossible core
      → Rising (length ls) core
  pub core_fails : (ls core : List ℕ) → Proper M.claims ls → M.answer ls ≡ impossible core
      → (v : List ℤ) → Fit M v → All (λ p. M.Holds (slice_index ls p) v) core → ⊥

-- some fit makes every literal of a list hold
abbrev pub Together : Meaning → List ℕ → Type 0
Together M ls = (v : List ℤ) × Fit M v × All (λ l. M.Holds l v) ls

-- the answer is possible exactly if the literals of the list hold together in some fit
pub record Exact (M : Meaning) : Type 0 where
  pub only_then : (ls : List ℕ) → Proper M.claims ls → M.answer ls ≡ possible → Together M ls
  pub whenever : (ls : List ℕ) → Proper M.claims ls → Together M ls → M.answer ls ≡ possible
