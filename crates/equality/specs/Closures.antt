-- What a closure's contracts speak of. Assumes nothing.
use Rattle.std.specs.Prelude.{List, vec_items}
use Rattle.theory.specs.declared.term.Term.{Term}
use Rattle.congruence.specs.declared.step.Step.{Step}
use Rattle.equality.specs.declared.closure.Closure.{Closure}
use Rattle.equality.specs.Logs.{log}

-- the terms that it is over
abbrev pub records_of : Closure → List Term
records_of c = c.terms.records.now

-- its merges, the oldest first
abbrev pub steps_of : Closure → List Step
steps_of c = vec_items c.steps

-- its merges, as a log
abbrev pub merged : Closure → List Step
merged c = log (steps_of c)
