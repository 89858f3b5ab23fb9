use Rattle.std.proofs.Common.{drop, ◌↔◌}
use Rattle.theory.specs.Literals.{Proper}
use Rattle.clauses.proofs.row.is_proper.Given as goal

abbrev pub invariant-loop-i : goal.invariant-loop-i
invariant-loop-i l = (Proper l.claims (drop l.i l.clause)) ↔ (Proper l.claims l.clause)
