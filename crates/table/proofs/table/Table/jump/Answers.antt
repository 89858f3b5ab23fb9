use Rattle.std.proofs.Common.{◌∙◌, sym}
use Rattle.clauses.specs.Sets.{members}
use Rattle.trail.proofs.Kept.{proper_trail}
use Rattle.table.proofs.Jumping.{sole_goes, never}
use Rattle.table.proofs.table.Table.jump.Goals as goal

pub returns-in_err-push : goal.returns-in_err-push
returns-in_err-push c =
    absurd (never (sole_goes _ c.args.k (members c.in-Some.conflict) _ c.in-Some-sole_above.l (proper_trail c.args.self.now.trail) (sym c.in-Some-sole_above.is ∙ c.sole_above.ensures))
    c.cut.ensures.claims c.cut.ensures.trail (sym c.in_err-push.was ∙ c.push.ensures.says))
