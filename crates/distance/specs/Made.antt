-- What making a theory of distances gives. Assumes nothing.
use Rattle.std.specs.Prelude.{◌≡◌, List, [], length, Result}
use Rattle.theory.specs.declared.refusal.Unmade.{Unmade}
use Rattle.theory.specs.declared.term.Term.{Term}
use Rattle.theory.specs.Made.{Making}
use Rattle.difference.specs.declared.bound.Bound.{Bound}
use Rattle.difference.specs.Distance.{Standing}
use Rattle.distance.specs.declared.state.Distance.{Distance}
use Rattle.distance.specs.State.{term_count, claims_of, list_of}
use Rattle.distance.specs.Checks.{Sound, Barred}

-- a theory of just these terms and claims, with nothing asserted, of which all that is proved of distances stands
pub record New (ts : List Term) (claims : List Bound) (d : Distance) : Type 0 where
  pub terms_are : term_count d ≡ length ts
  pub claims_are : claims_of d ≡ claims
  pub nothing : list_of d ≡ []
  pub stands : Standing (length ts) claims

-- sound records give a theory, or find no memory; others are refused
abbrev pub Made : List Term → List Bound → Result Distance Unmade → Type 0
Made ts claims = Making (Sound ts claims) (New ts claims) (Barred ts claims)
