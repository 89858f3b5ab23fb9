-- A table of term records. Assumes nothing.
use Rattle.std.specs.Prelude.{ℕ, ◌<◌, ◌≤◌, List, [], length, slice_index_or}
use Rattle.theory.specs.declared.term.Term.{Term}

-- the term numbered `k`; past the table's end a record of zeros
abbrev pub at : List Term → ℕ → Term
at ts k = slice_index_or ts k record { symbol = 0; arity = 0; args = [] }

-- no term has more than `most` arguments
abbrev pub Arities : ℕ → List Term → Type 0
Arities most ts = (k : ℕ) → k < length ts → (at ts k).arity ≤ most

-- at most 256 terms, with at most `most` arguments each, and at most 128 claims
pub record Limits (most : ℕ) (ts : List Term) (claims : ℕ) : Type 0 where
  pub few_terms : length ts ≤ 256
  pub few_claims : claims ≤ 128
  pub arities : Arities most ts
