-- What equality over a table of terms means: which numberings are fits, and which terms are joined. Assumes nothing.
use Rattle.std.specs.Prelude.{◌≡◌, ℕ, ◌<◌, List, length}
use Rattle.theory.specs.declared.term.Term.{Term}
use Rattle.theory.specs.Terms.{at}
use Rattle.congruence.specs.Table.{arg}

-- two terms with one symbol, one number of arguments, and equal numbers at their arguments
abbrev pub Congruent : {A : Type 0} → List Term → (ℕ → A) → ℕ → ℕ → Type 0
Congruent ts num t u =
    ((at ts t).symbol ≡ (at ts u).symbol) × ((at ts t).arity ≡ (at ts u).arity)
    × ((i : ℕ) → i < (at ts t).arity → num (arg (at ts t) i) ≡ num (arg (at ts u) i))

-- a numbering of the terms is a fit if congruent terms always have equal numbers
abbrev pub Fit : {A : Type 0} → List Term → (ℕ → A) → Type 0
Fit ts num = (t u : ℕ) → t < length ts → u < length ts → Congruent ts num t u → num t ≡ num u

-- terms are joined by what is given, and by what reflexivity, symmetry, transitivity and congruence derive from it
pub data Joined (ts : List Term) (Given : ℕ → ℕ → Type 0) : ℕ → ℕ → Type 0 where
  by_given : (t u : ℕ) → Given t u → Joined ts Given t u
  by_same : (t : ℕ) → Joined ts Given t t
  by_sym : {t u : ℕ} → Joined ts Given t u → Joined ts Given u t
  by_trans : {t u v : ℕ} → Joined ts Given t u → Joined ts Given u v → Joined ts Given t v
  by_cong : (t u : ℕ) → t < length ts → u < length ts → (at ts t).symbol ≡ (at ts u).symbol → (at ts t).arity ≡ (at ts u).arity
      → ((i : ℕ) → i < (at ts t).arity → Joined ts Given (arg (at ts t) i) (arg (at ts u) i)) → Joined ts Given t u
