-- What the place for a fit holds after a step. Assumes nothing.
use Rattle.std.specs.Prelude.{ℕ, List, ℤ, Ok, Err, min}
use Rattle.theory.specs.Meaning.{Meaning}
use Rattle.theory.specs.Calls.{over}
use Rattle.rules.specs.declared.step.Step.{Step}
use Rattle.rules.specs.declared.step.Step.TheVariants.{Decide, Propagate, Imply, Conflict, Clash, Resolve, Jump, Forget, Fit, NoFit}
use Rattle.rules.specs.States.{State, asserted, Outcome}
use Rattle.rules.specs.Rules.{judge}

-- a fit that is accepted is written over the front of the place
abbrev pub written : Meaning → State → Outcome → List ℤ → List ℤ
written M s (Ok s') place = over (M.written (asserted s.trail)) place
written M s (Err r) place = place

-- a step with the part of a place of `len` numbers that it may use
abbrev pub within : ℕ → Step → Step
within len (Decide l) = Decide l
within len (Propagate c l) = Propagate c l
within len (Imply l) = Imply l
within len (Conflict c) = Conflict c
within len Clash = Clash
within len Resolve = Resolve
within len (Jump k c) = Jump k c
within len (Forget c) = Forget c
within len (Fit k) = Fit (min k len)
within len NoFit = NoFit

-- what a place holds after a step: only an accepted fit writes
abbrev pub fit_over : Meaning → State → Step → List ℤ → List ℤ
fit_over M s (Fit k) place = written M s (judge M s (Fit k)) place
fit_over M s x place = place
