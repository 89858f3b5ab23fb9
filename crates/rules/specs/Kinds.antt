-- The number of each kind of step, and of each verdict. Assumes nothing.
use Rattle.std.specs.Prelude.{ℕ}
use Rattle.rules.specs.declared.step.Step.{Step}
use Rattle.rules.specs.declared.step.Step.TheVariants.{Decide, Propagate, Imply, Conflict, Clash, Resolve, Jump, Forget, Fit, NoFit}
use Rattle.rules.specs.declared.step.Verdict.{Verdict}
use Rattle.rules.specs.declared.step.Verdict.TheVariants as verdict

abbrev pub kind : Step → ℕ
kind (Decide l) = 16
kind (Propagate c l) = 17
kind (Imply l) = 18
kind (Conflict c) = 19
kind Clash = 20
kind Resolve = 21
kind (Jump k c) = 22
kind (Forget c) = 23
kind (Fit len) = 24
kind NoFit = 25

-- a verdict has the number of the kind of step that gives it
abbrev pub verdict_number : Verdict → ℕ
verdict_number verdict.Fit = 24
verdict_number verdict.NoFit = 25
