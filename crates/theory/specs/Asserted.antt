-- What callers see of a list of asserted literals. Assumes nothing.
use Rattle.std.specs.Prelude.{ℕ, List, vec_items}
use Rattle.theory.specs.declared.asserted.Asserted.{Asserted}

-- how many claims there are
abbrev pub claims_of : Asserted → ℕ
claims_of a = a.claims

-- the literals, in the order in which they were asserted
abbrev pub literals_of : Asserted → List ℕ
literals_of a = vec_items a.literals
