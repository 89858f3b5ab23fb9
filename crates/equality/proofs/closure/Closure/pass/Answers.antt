use Rattle.std.proofs.Common.{sym, ◌∙◌, arith}
use Rattle.congruence.specs.Merges.{label}
use Rattle.congruence.proofs.Closing.{Pending, twin_some}
use Rattle.equality.specs.Logs.{log}
use Rattle.equality.proofs.closure.Closure.pass.Goals as goal

-- what the twin is
pending : (c : goal.After-merge-arg-1) → Pending c.args.self.now.terms.records.now (label (log c.args.self.now.steps.items)) c.args.t c.in-Some.u
pending c = twin_some c.args.self.now.terms.records.now (label (log c.args.self.now.steps.items)) c.args.t c.in-Some.u (sym c.twin.ensures ∙ c.in-Some.is)

pub merge-requires-clause-right : goal.merge-requires-clause-right
merge-requires-clause-right c = omega (arith, (pending c).earlier, c.requires)

pub merge-requires-clause-apart : goal.merge-requires-clause-apart
merge-requires-clause-apart c = (pending c).apart

pub merge-requires-clause-rests : goal.merge-requires-clause-rests
merge-requires-clause-rests c = (pending c).congruent
