use Rattle.std.proofs.Common.{◌≡◌, take}
use Rattle.theory.specs.Literals.{has}
use Rattle.rules.specs.Clauses.{set_of}
use Rattle.clauses.specs.Sets.{members}
use Rattle.clauses.proofs.set.LiteralSet.of.Given as goal

abbrev pub invariant-loop-l : goal.invariant-loop-l
invariant-loop-l l = members l.set ≡ set_of (has (take l.l-index l.clause))
