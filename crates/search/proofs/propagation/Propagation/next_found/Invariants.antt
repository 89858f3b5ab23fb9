use Rattle.std.proofs.Common.{◌-◌}
use Rattle.search.proofs.propagation.Propagation.next_found.Given as goal

abbrev pub decreases-loop-self : goal.decreases-loop-self
decreases-loop-self l = l.self.to - l.self.from
