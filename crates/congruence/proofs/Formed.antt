-- That a log of merges is rightful has one proof at most, so that a type can keep it. Assumes nothing.
use Rattle.std.specs.Prelude.{ℕ, ◌⊎◌, List, [], ◌∷◌}
use Rattle.std.proofs.Common.{ap, inl, inr, arith}
use Rattle.std.proofs.Props.{props}
use Rattle.std.specs.Coded.{×_prop, Unit-prop, le_prop}
use Rattle.theory.specs.declared.term.Term.{Term}
use Rattle.congruence.specs.declared.step.Step.{Step}
use Rattle.congruence.specs.declared.step.Reason.{Reason}
use Rattle.congruence.specs.declared.step.Reason.TheVariants.{Congruence, Asserted}
use Rattle.congruence.specs.Merges.{label}
use Rattle.congruence.specs.Log.{RestsOn, Rightful, Formed}

either_prop : {A B : Type 0} → IsProp A → IsProp B → (A → B → ⊥) → IsProp (A ⊎ B)
either_prop a b apart (inl x) (inl y) = ap inl (a x y)
either_prop a b apart (inr x) (inr y) = ap inr (b x y)
either_prop a b apart (inl x) (inr y) = absurd (apart x y)
either_prop a b apart (inr x) (inl y) = absurd (apart y x)

rests_prop : (ts : List Term) (num : ℕ → ℕ) (t u : ℕ) (r : Reason) → IsProp (RestsOn ts (λ p a b. Unit {0}) num t u r)
rests_prop ts num t u Congruence = hlevel props
rests_prop ts num t u (Asserted p) = Unit-prop

rightful_prop : (ts : List Term) (num : ℕ → ℕ) (s : Step) → IsProp (Rightful ts (λ p a b. Unit {0}) num s)
rightful_prop ts num s x y =
    λ i. record {
      left_in = le_prop x.left_in y.left_in i;
      right_in = le_prop x.right_in y.right_in i;
      order = le_prop x.order y.order i;
      ends = either_prop (hlevel props) (hlevel props) (λ a b. omega (arith, x.order, a.0, b.0)) x.ends y.ends i;
      rests_on = rests_prop ts num s.left s.right s.reason x.rests_on y.rests_on i;
    }

pub Formed-prop : (ts : List Term) (log : List Step) → IsProp (Formed ts log)
Formed-prop ts [] = Unit-prop
Formed-prop ts (s ∷ older) = ×_prop (rightful_prop ts (label older) s) (Formed-prop ts older)
