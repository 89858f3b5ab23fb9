use Rattle.std.proofs.Common.{arith, sym, subst}
use Rattle.std.proofs.lemmas.Grind.{common_steps}
use Rattle.std.proofs.lemmas.List.{take_all}
use Rattle.std.proofs.lemmas.List.Elements.{All-same, All-more, All-map}
use Rattle.book.specs.Canonical.{StepFits}
use Rattle.book.specs.Books.{proposed_of}
use Rattle.book.proofs.writing.write_steps.Goals as goal

pub loop-step-preserved : goal.loop-step-preserved
loop-step-preserved c =
    let kept = c.loop-step.invariant.0 in
    let fits = subst StepFits c.of.ensures.value c.in_ok-write_step.ensures.fits in
    (grind (arith, common_steps, kept), All-more (λ k. StepFits (proposed_of c.args.terms k)) c.args.steps.now c.loop-step.step-index _ c.loop-step-test.true c.loop-step.invariant.1 fits)

pub returns-clause-fits : goal.returns-clause-fits
returns-clause-fits c = All-map StepFits (proposed_of c.args.terms) _ (All-same (λ k. StepFits (proposed_of c.args.terms k)) _ _ (sym (take_all c.loop-step.step-index c.args.steps.now c.loop-step-test.false)) c.loop-step.invariant.1)
