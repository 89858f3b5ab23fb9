use Rattle.std.proofs.Common.{ap, ◌∙◌}
use Rattle.std.proofs.lemmas.List.{take_all}
use Rattle.theory.specs.Literals.{has}
use Rattle.rules.specs.Clauses.{set_of}
use Rattle.clauses.proofs.Sets.{of_none, of_more}
use Rattle.clauses.proofs.set.LiteralSet.of.Goals as goal

pub loop-l-init : goal.loop-l-init
loop-l-init c = of_none

pub loop-l-preserved : goal.loop-l-preserved
loop-l-preserved c = c.mark.ensures ∙ of_more c.args.clause.now c.loop-l.l-index _ c.loop-l-test.true c.loop-l.invariant

pub returns : goal.returns
returns c = c.loop-l.invariant ∙ ap (λ R. set_of (has R)) (take_all c.loop-l.l-index c.args.clause.now c.loop-l-test.false)
