use Rattle.congruence.specs.Table.{arg}
use Rattle.congruence.specs.Merges.{any_below, needed}
use Rattle.equality.specs.Logs.{until}
use Rattle.equality.specs.Marked.{Grown}
use Rattle.equality.proofs.closure.Closure.+explain.Given as goal

abbrev pub decreases-explain : goal.decreases-explain
decreases-explain l = l.upto

-- what the arguments that were passed need is covered
abbrev pub invariant-loop-i : goal.invariant-loop-i
invariant-loop-i l =
    Grown l.self.terms.records.now l.self.steps.items l.initial.marks l.marks
    (λ p. any_below l.i (λ i. needed l.self.terms.records.now (until l.self.steps.items l.k) p (arg l.x i) (arg l.y i)))
