use Rattle.std.proofs.Common.{◌≡◌, take}
use Rattle.rules.specs.States.{asserted}
use Rattle.clauses.specs.Stored.{clause_of}
use Rattle.trail.specs.Trails.{trail_of, blamed}
use Rattle.trail.proofs.trail.Trail.blame.Given as goal

abbrev pub invariant-loop-p : goal.invariant-loop-p
invariant-loop-p l = clause_of l.clause ≡ take 256 (blamed (asserted (trail_of l.self)) l.next (take l.p-index l.core))
