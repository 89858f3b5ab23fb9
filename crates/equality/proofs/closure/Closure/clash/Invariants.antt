use Rattle.std.proofs.Common.{◌≡◌, None}
use Rattle.congruence.specs.Merges.{first, label}
use Rattle.equality.specs.Logs.{log}
use Rattle.equality.proofs.Asking.{clash_by}
use Rattle.equality.proofs.closure.Closure.clash.Given as goal

abbrev pub invariant-loop-p : goal.invariant-loop-p
invariant-loop-p l = first l.p (clash_by (label (log l.self.steps.items)) l.claims l.list) ≡ None
