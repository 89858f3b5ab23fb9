use Rattle.std.proofs.Common.{ap, ◌∙◌}
use Rattle.std.specs.Option.{is_some}
use Rattle.trail.specs.Trails.{trail_of}
use Rattle.trail.proofs.Kept.{is_some_place}
use Rattle.trail.proofs.trail.Trail.is_true.Goals as goal

pub returns : goal.returns
returns c = c.is_some.ensures ∙ ap is_some c.position.ensures ∙ is_some_place (trail_of c.args.self.now) c.args.l
