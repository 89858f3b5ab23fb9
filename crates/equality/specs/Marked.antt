-- The marks that are set while explaining by a row of merges. Assumes nothing.
use Rattle.std.specs.Prelude.{◌≡◌, ℕ, ◌+◌, ◌<◌, Bool, true, false, ◌||◌, ◌⊎◌, List, length, slice_index_or}
use Rattle.theory.specs.declared.term.Term.{Term}
use Rattle.congruence.specs.declared.step.Step.{Step}
use Rattle.congruence.specs.declared.step.Reason.TheVariants.{Asserted}
use Rattle.congruence.specs.Merges.{rests, crosses, needed}
use Rattle.equality.specs.declared.explain.Ends.{Ends}
use Rattle.equality.specs.Logs.{step_at, until, label_at}

-- the merge at which two terms came into one class
pub record Joins (ss : List Step) (t u k : ℕ) : Type 0 where
  pub apart : label_at ss k t ≡ label_at ss k u → ⊥
  pub together : label_at ss (k + 1) t ≡ label_at ss (k + 1) u

-- the two ends of the merge numbered `k`, in the order in which they lie between `t` and `u`
pub record Sides (ts : List Term) (ss : List Step) (t u k : ℕ) (r : Ends) : Type 0 where
  pub near_in : r.near < length ts
  pub far_in : r.far < length ts
  pub near_side : label_at ss k t ≡ label_at ss k r.near
  pub far_side : label_at ss k r.far ≡ label_at ss k u
  pub way : (needs : ℕ → ℕ → Bool) → crosses (label_at ss k) needs (step_at ss k) t u ≡ (needs t r.near || needs r.far u)

-- a marked merge was asserted at this position
abbrev pub Covered : List Step → List Bool → ℕ → Type 0
Covered ss ms p = (j : ℕ) × (j < length ss) × (slice_index_or ms j false ≡ true) × ((step_at ss j).reason ≡ Asserted p)

-- what a merge rests on
abbrev pub basis : List Term → List Step → ℕ → ℕ → Bool
basis ts ss j p = rests ts (needed ts (until ss j) p) p (step_at ss j) (step_at ss j).reason

-- what a marked merge rests on is covered
abbrev pub Whole : List Term → List Step → List Bool → Type 0
Whole ts ss ms = (j p : ℕ) → j < length ss → slice_index_or ms j false ≡ true → basis ts ss j p ≡ true → Covered ss ms p

-- more marks, which cover just the positions that pass a test besides those covered before
pub record Grown (ts : List Term) (ss : List Step) (ms ns : List Bool) (test : ℕ → Bool) : Type 0 where
  pub long : length ns ≡ length ms
  pub kept : (j : ℕ) → slice_index_or ms j false ≡ true → slice_index_or ns j false ≡ true
  pub whole : Whole ts ss ns
  pub all : (p : ℕ) → test p ≡ true → Covered ss ns p
  pub only : (p : ℕ) → Covered ss ns p → Covered ss ms p ⊎ (test p ≡ true)
