use Rattle.congruence.specs.Merges.{label}
use Rattle.equality.specs.Logs.{log}
use Rattle.equality.proofs.Nearest.{left}
use Rattle.equality.proofs.Twins.{Walked}
use Rattle.equality.proofs.closure.Closure.twin.Given as goal

abbrev pub invariant-loop-near : goal.invariant-loop-near
invariant-loop-near l = Walked l.self.terms.records.now (label (log l.self.steps.items)) l.t l.near

abbrev pub decreases-loop-near : goal.decreases-loop-near
decreases-loop-near l = left l.near
