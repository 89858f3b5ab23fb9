use Rattle.std.proofs.Common.{pos}
use Rattle.congruence.specs.Merges.{label}
use Rattle.equality.specs.Logs.{log}
use Rattle.equality.proofs.Writing.{Front}
use Rattle.equality.proofs.closure.Closure.write_labels.Given as goal

abbrev pub invariant-loop-t : goal.invariant-loop-t
invariant-loop-t l = Front l.initial.place l.place l.t (λ t. pos (label (log l.self.steps.items) t))
