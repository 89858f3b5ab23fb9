use Rattle.std.proofs.Common.{◌≤◌}
use Rattle.distance.specs.Index.{Heads}
use Rattle.distance.proofs.bounds.unlink.Given as goal

-- the heads of the bounds below q
abbrev pub invariant-loop-q : goal.invariant-loop-q
invariant-loop-q l = Heads l.bounds l.q l.heads × (l.k ≤ l.q)
