use Rattle.std.proofs.Common.{◌≡◌, ◌-◌}
use Rattle.equality.proofs.Growing.{Settling}
use Rattle.equality.proofs.closure.Closure.settle.Given as goal

abbrev pub invariant-loop : goal.invariant-loop
invariant-loop l = record {
  terms : l.self.terms ≡ l.initial.self.terms;
  settling : Settling l.initial.self.terms.records.now (l.end - l.counter) l.initial.self.steps.items l.self.steps.items;
}
