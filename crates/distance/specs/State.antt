-- What callers see of a theory of distances. Assumes nothing.
use Rattle.std.specs.Prelude.{ℕ, List}
use Rattle.theory.specs.Asserted.{literals_of}
use Rattle.difference.specs.declared.bound.Bound.{Bound}
use Rattle.distance.specs.declared.state.Distance.{Distance}
use Rattle.distance.specs.Table.{terms_of}

-- how many terms there are
abbrev pub term_count : Distance → ℕ
term_count d = terms_of d.table

-- the claims that it was made of
abbrev pub claims_of : Distance → List Bound
claims_of d = d.claims.now

-- the literals asserted so far
abbrev pub list_of : Distance → List ℕ
list_of d = literals_of d.list
