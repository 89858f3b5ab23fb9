use Rattle.search.proofs.assignment.Assignment.highest.Given as goal

abbrev pub decreases-loop-level : goal.decreases-loop-level
decreases-loop-level l = l.level
