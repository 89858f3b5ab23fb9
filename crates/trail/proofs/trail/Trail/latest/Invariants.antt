use Rattle.std.proofs.Common.{◌≡◌, ◌≤◌, length, vec_items}
use Rattle.clauses.specs.Sets.{members}
use Rattle.trail.specs.Trails.{trail_of, latest_at}
use Rattle.trail.proofs.Looking.{before}
use Rattle.trail.proofs.trail.Trail.latest.Given as goal

abbrev pub invariant-loop-p : goal.invariant-loop-p
invariant-loop-p l = record {
  within : l.p ≤ length (vec_items l.self.entries);
  rest : latest_at (members l.conflict) (before (vec_items l.self.entries) l.p) ≡ latest_at (members l.conflict) (trail_of l.self);
}

abbrev pub decreases-loop-p : goal.decreases-loop-p
decreases-loop-p l = l.p
