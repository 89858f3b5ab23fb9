use Rattle.std.proofs.Common.{◌≡◌}
use Rattle.congruence.specs.Merges.{sweep}
use Rattle.equality.specs.Logs.{log, Ran}
use Rattle.equality.proofs.closure.Closure.sweep.Given as goal

abbrev pub invariant-loop-t : goal.invariant-loop-t
invariant-loop-t l = record {
  terms : l.self.terms ≡ l.initial.self.terms;
  ran : Ran l.initial.self.steps.items l.self.steps.items (sweep l.initial.self.terms.records.now l.t (log l.initial.self.steps.items));
}
