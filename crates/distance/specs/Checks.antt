-- Which records a theory of distances is made of, and why others are refused. Assumes nothing.
use Rattle.std.specs.Prelude.{List, length}
use Rattle.theory.specs.declared.term.Term.{Term}
use Rattle.theory.specs.declared.refusal.Refusal.{Refusal}
use Rattle.theory.specs.declared.refusal.Refusal.TheVariants.{PastLimit, TermHasArgument, NoSuchTerm, ConstantOutOfRange}
use Rattle.theory.specs.Terms.{Arities, Limits}
use Rattle.difference.specs.declared.bound.Bound.{Bound}
use Rattle.difference.specs.Bounds.{Named}
use Rattle.difference.specs.Depth.{InRange}

-- the records that a theory is made of: terms without arguments, and claims on them with constants in their range
pub record Sound (ts : List Term) (claims : List Bound) : Type 0 where
  pub limits : Limits 2 ts (length claims)
  pub bare : Arities 0 ts
  pub named : Named (length ts) claims
  pub in_range : InRange claims

-- why others are refused: the first cause, each looked for over the whole input
pub data Barred (ts : List Term) (claims : List Bound) : Refusal → Type 0 where
  past_limit : (Limits 2 ts (length claims) → ⊥) → Barred ts claims PastLimit
  has_argument : Limits 2 ts (length claims) → (Arities 0 ts → ⊥) → Barred ts claims TermHasArgument
  no_term : Limits 2 ts (length claims) → Arities 0 ts → (Named (length ts) claims → ⊥) → Barred ts claims NoSuchTerm
  out_of_range : Limits 2 ts (length claims) → Arities 0 ts → Named (length ts) claims → (InRange claims → ⊥) → Barred ts claims ConstantOutOfRange
