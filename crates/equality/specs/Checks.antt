-- Which records a theory of equality is made of, and why others are refused. Assumes nothing.
use Rattle.std.specs.Prelude.{List, length}
use Rattle.theory.specs.declared.term.Term.{Term}
use Rattle.theory.specs.declared.refusal.Refusal.{Refusal}
use Rattle.theory.specs.declared.refusal.Refusal.TheVariants.{PastLimit, ArgumentNotLower, NoSuchTerm}
use Rattle.theory.specs.Terms.{Limits}
use Rattle.congruence.specs.declared.claim.Claim.{Claim}
use Rattle.congruence.specs.Table.{Lower}
use Rattle.congruence.specs.Equality.{Named}

-- the records that a theory is made of: terms of at most two arguments, each lower than its own term, and claims on them
pub record Sound (ts : List Term) (claims : List Claim) : Type 0 where
  pub limits : Limits 2 ts (length claims)
  pub lower : Lower ts
  pub named : Named ts claims

-- why others are refused: the first cause, each looked for over the whole input
pub data Barred (ts : List Term) (claims : List Claim) : Refusal → Type 0 where
  past_limit : (Limits 2 ts (length claims) → ⊥) → Barred ts claims PastLimit
  not_lower : Limits 2 ts (length claims) → (Lower ts → ⊥) → Barred ts claims ArgumentNotLower
  no_term : Limits 2 ts (length claims) → Lower ts → (Named ts claims → ⊥) → Barred ts claims NoSuchTerm
