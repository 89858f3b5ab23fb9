-- A log of merges that is rightful. Assumes nothing.
use Rattle.std.specs.Prelude.{◌≡◌, ℕ, ◌<◌, ◌⊎◌, List, [], ◌∷◌, length}
use Rattle.theory.specs.declared.term.Term.{Term}
use Rattle.congruence.specs.declared.step.Step.{Step}
use Rattle.congruence.specs.declared.step.Reason.{Reason}
use Rattle.congruence.specs.declared.step.Reason.TheVariants.{Congruence, Asserted}
use Rattle.congruence.specs.Congruence.{Congruent}
use Rattle.congruence.specs.Merges.{label}

-- what a merge of `a` and `b` rests on, where the labels are `num`
abbrev pub RestsOn : List Term → (ℕ → ℕ → ℕ → Type 0) → (ℕ → ℕ) → ℕ → ℕ → Reason → Type 0
RestsOn ts Asserts num a b Congruence = Congruent ts num a b
RestsOn ts Asserts num a b (Asserted p) = Asserts p a b

-- a merge joins two classes of terms, under the lower label, and rests on what came before it
pub record Rightful (ts : List Term) (Asserts : ℕ → ℕ → ℕ → Type 0) (num : ℕ → ℕ) (s : Step) : Type 0 where
  pub left_in : s.left < length ts
  pub right_in : s.right < length ts
  pub order : s.low < s.high
  pub ends : ((num s.left ≡ s.high) × (num s.right ≡ s.low)) ⊎ ((num s.left ≡ s.low) × (num s.right ≡ s.high))
  pub rests_on : RestsOn ts Asserts num s.left s.right s.reason

abbrev pub Logged : List Term → (ℕ → ℕ → ℕ → Type 0) → List Step → Type 0
Logged ts Asserts [] = Unit {0}
Logged ts Asserts (s ∷ older) = Rightful ts Asserts (label older) s × Logged ts Asserts older

-- a log of merges of a table's terms, whatever was asserted
abbrev pub Formed : List Term → List Step → Type 0
Formed ts log = Logged ts (λ p a b. Unit {0}) log
