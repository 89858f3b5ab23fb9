-- What making a theory of equality gives. Assumes nothing.
use Rattle.std.specs.Prelude.{◌≡◌, List, [], Result}
use Rattle.theory.specs.declared.refusal.Unmade.{Unmade}
use Rattle.theory.specs.declared.term.Term.{Term}
use Rattle.theory.specs.Made.{Making}
use Rattle.congruence.specs.declared.claim.Claim.{Claim}
use Rattle.congruence.specs.Equality.{Standing}
use Rattle.equality.specs.declared.state.Equality.{Equality}
use Rattle.equality.specs.State.{terms_of, claims_of, list_of}
use Rattle.equality.specs.Checks.{Sound, Barred}

-- a theory of just these terms and claims, with nothing asserted, of which all that is proved of equality stands
pub record New (ts : List Term) (claims : List Claim) (e : Equality) : Type 0 where
  pub terms_are : terms_of e ≡ ts
  pub claims_are : claims_of e ≡ claims
  pub nothing : list_of e ≡ []
  pub stands : Standing ts claims

-- sound records give a theory, or find no memory; others are refused
abbrev pub Made : List Term → List Claim → Result Equality Unmade → Type 0
Made ts claims = Making (Sound ts claims) (New ts claims) (Barred ts claims)
