-- What callers see of a theory of equality. Assumes nothing.
use Rattle.std.specs.Prelude.{ℕ, List}
use Rattle.theory.specs.declared.term.Term.{Term}
use Rattle.theory.specs.Asserted.{literals_of}
use Rattle.congruence.specs.declared.claim.Claim.{Claim}
use Rattle.equality.specs.declared.state.Equality.{Equality}

-- the terms and claims that it was made of
abbrev pub terms_of : Equality → List Term
terms_of e = e.closure.terms.records.now

abbrev pub claims_of : Equality → List Claim
claims_of e = e.claims.now

-- the literals asserted so far
abbrev pub list_of : Equality → List ℕ
list_of e = literals_of e.list
