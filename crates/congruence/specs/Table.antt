-- A table of term records. Assumes nothing.
use Rattle.std.specs.Prelude.{ℕ, ◌<◌, List, length, slice_index}
use Rattle.theory.specs.declared.term.Term.{Term}
use Rattle.theory.specs.Terms.{at}

-- the argument numbered `i` of a term
abbrev pub arg : Term → ℕ → ℕ
arg t i = slice_index t.args i

-- each argument is lower than its own term
abbrev pub Lower : List Term → Type 0
Lower ts = (k : ℕ) → k < length ts → (i : ℕ) → i < (at ts k).arity → arg (at ts k) i < k
