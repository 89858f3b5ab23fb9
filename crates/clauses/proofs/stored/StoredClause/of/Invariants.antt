use Rattle.std.proofs.Common.{◌≡◌}
use Rattle.theory.specs.Literals.{has}
use Rattle.theory.specs.Positions.{listed}
use Rattle.clauses.specs.Sets.{members}
use Rattle.clauses.specs.Stored.{clause_of}
use Rattle.clauses.proofs.stored.StoredClause.of.Given as goal

abbrev pub invariant-loop-l : goal.invariant-loop-l
invariant-loop-l l = clause_of l.clause ≡ listed 0 l.l (has (members l.set))
