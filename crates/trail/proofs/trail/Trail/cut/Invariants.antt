use Rattle.std.proofs.Common.{◌≡◌, length}
use Rattle.rules.specs.Rules.{up_to}
use Rattle.trail.specs.Trails.{claims_of, trail_of}
use Rattle.trail.proofs.trail.Trail.cut.Given as goal

abbrev pub invariant-loop-self : goal.invariant-loop-self
invariant-loop-self l = record {
  claims : claims_of l.self ≡ claims_of l.initial.self;
  trail : up_to l.k (trail_of l.self) ≡ up_to l.k (trail_of l.initial.self);
}

abbrev pub decreases-loop-self : goal.decreases-loop-self
decreases-loop-self l = length (trail_of l.self)
