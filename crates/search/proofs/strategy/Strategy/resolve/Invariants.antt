use Rattle.search.proofs.strategy.Strategy.resolve.Given as goal

abbrev pub decreases-loop-self : goal.decreases-loop-self
decreases-loop-self g l = l.self.top
