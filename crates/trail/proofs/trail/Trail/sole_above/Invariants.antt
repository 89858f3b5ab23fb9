use Rattle.std.proofs.Common.{◌≡◌, ◌≤◌, length, vec_items}
use Rattle.clauses.specs.Sets.{members}
use Rattle.trail.specs.Trails.{trail_of, sole_above}
use Rattle.trail.proofs.Looking.{before, sole_left}
use Rattle.trail.proofs.trail.Trail.sole_above.Given as goal

abbrev pub invariant-loop-p : goal.invariant-loop-p
invariant-loop-p l = record {
  within : l.p ≤ length (vec_items l.self.entries);
  rest : sole_left l.k (members l.conflict) l.sole (before (vec_items l.self.entries) l.p) ≡ sole_above l.k (members l.conflict) (trail_of l.self);
}

abbrev pub decreases-loop-p : goal.decreases-loop-p
decreases-loop-p l = l.p
