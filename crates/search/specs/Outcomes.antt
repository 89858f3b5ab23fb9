-- The number of each outcome of a search, and the outcome that a history ends with. Assumes nothing.
use Rattle.std.specs.Prelude.{ℕ, Option, Some, None}
use Rattle.rules.specs.declared.step.Verdict.{Verdict}
use Rattle.rules.specs.declared.step.Verdict.TheVariants as verdict
use Rattle.search.specs.declared.outcome.Outcome.{Outcome}
use Rattle.search.specs.declared.outcome.Outcome.TheVariants.{Spent, Fit, NoFit}

abbrev pub number : Outcome → ℕ
number Spent = 0
number Fit = 1
number NoFit = 2

-- where no verdict stands the allowance was spent
abbrev pub outcome_of : Option Verdict → Outcome
outcome_of None = Spent
outcome_of (Some verdict.Fit) = Fit
outcome_of (Some verdict.NoFit) = NoFit
