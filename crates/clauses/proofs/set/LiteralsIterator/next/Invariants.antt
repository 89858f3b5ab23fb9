use Rattle.std.proofs.Common.{◌-◌, ◌≡◌}
use Rattle.clauses.specs.Left.{literals_left}
use Rattle.clauses.proofs.set.LiteralsIterator.next.Given as goal

abbrev pub invariant-loop-self : goal.invariant-loop-self
invariant-loop-self l = literals_left l.self ≡ literals_left l.initial.self

abbrev pub decreases-loop-self : goal.decreases-loop-self
decreases-loop-self l = 256 - l.self.next
