use Rattle.history.specs.Next.{Same}
use Rattle.search.proofs.strategy.Strategy.try_round.Given as goal

abbrev pub invariant-loop-claim : goal.invariant-loop-claim
invariant-loop-claim g l = Same l.initial.history l.history
