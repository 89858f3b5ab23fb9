use Rattle.std.proofs.Common.{ℕ, ◌<◌}
use Rattle.theory.specs.Terms.{at}
use Rattle.congruence.specs.Table.{arg}
use Rattle.equality.proofs.check.lower_arguments.Given as goal

abbrev pub invariant-loop-k : goal.invariant-loop-k
invariant-loop-k l = (k : ℕ) → k < l.k → (i : ℕ) → i < (at l.terms k).arity → arg (at l.terms k) i < k
