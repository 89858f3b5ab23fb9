-- What a query looks at. Assumes nothing.
use Rattle.std.specs.Prelude.{ℕ, ◌<◌, Bool, false, ◌&&◌, List, length, ◌==◌, slice_index, slice_index_or}
use Rattle.theory.specs.declared.term.Term.{Term}
use Rattle.theory.specs.Literals.{claim}
use Rattle.congruence.specs.declared.claim.Claim.{Claim}
use Rattle.congruence.specs.declared.step.Step.{Step}
use Rattle.congruence.specs.declared.step.Reason.{Reason}
use Rattle.congruence.specs.declared.step.Reason.TheVariants.{Congruence, Asserted}
use Rattle.congruence.specs.Merges.{any_below, pair_of}
use Rattle.equality.specs.Logs.{step_at}

-- whether a merge was asserted at a position
abbrev pub asserted : Reason → ℕ → Bool
asserted Congruence p = false
asserted (Asserted q) p = q == p

-- whether one of the first `n` merges is marked and was asserted at a position
abbrev pub covers : List Step → List Bool → ℕ → ℕ → Bool
covers ss ms n p = any_below n (λ j. slice_index_or ms j false && asserted (step_at ss j).reason p)

-- each literal of a list has a claim, which names two terms
abbrev pub Listed : List Term → List Claim → List ℕ → Type 0
Listed ts claims ls =
    (p : ℕ) → p < length ls
    → (claim (slice_index ls p) < length claims) × ((pair_of claims (slice_index ls p)).left < length ts) × ((pair_of claims (slice_index ls p)).right < length ts)
