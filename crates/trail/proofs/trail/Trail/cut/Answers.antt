use Rattle.std.proofs.Common.{◌<◌, length, sym, ap, ◌∙◌, arith}
use Rattle.rules.specs.States.{level}
use Rattle.rules.specs.Rules.{up_to}
use Rattle.trail.specs.Trails.{trail_of}
use Rattle.trail.proofs.Kept.{up_to_more, up_to_stop, pop_fewer}
use Rattle.trail.proofs.trail.Trail.cut.Goals as goal

pub loop-self-smaller : goal.loop-self-smaller
loop-self-smaller c =
    let above : c.args.k < level (trail_of c.loop-self.self) = omega (arith, c.level.ensures) in
    omega (arith, pop_fewer c.args.k (trail_of c.loop-self.self) above, ap length c.pop.ensures.trail)

pub loop-self-preserved : goal.loop-self-preserved
loop-self-preserved c =
    let above : c.args.k < level (trail_of c.loop-self.self) = omega (arith, c.level.ensures) in
    record {
      claims = c.pop.ensures.claims ∙ c.loop-self.invariant.claims;
      trail = ap (up_to c.args.k) c.pop.ensures.trail ∙ up_to_more c.args.k (trail_of c.loop-self.self) above ∙ c.loop-self.invariant.trail;
    }

pub returns-clause-trail : goal.returns-clause-trail
returns-clause-trail c = sym (up_to_stop c.args.k (trail_of c.loop-self.self) (omega (arith, c.level.ensures))) ∙ c.loop-self.invariant.trail
