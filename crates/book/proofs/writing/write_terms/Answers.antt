use Rattle.std.proofs.Common.{arith, sym}
use Rattle.std.proofs.lemmas.Grind.{common_steps}
use Rattle.std.proofs.lemmas.List.{take_all}
use Rattle.std.proofs.lemmas.List.Elements.{All-same, All-more}
use Rattle.book.specs.Canonical.{TermFits}
use Rattle.book.specs.Writing.{IsShort}
use Rattle.book.proofs.writing.write_terms.Goals as goal

pub loop-term-preserved : goal.loop-term-preserved
loop-term-preserved c =
    let kept = c.loop-term.invariant.0 in
    (grind (arith, common_steps, kept), All-more (λ t. IsShort t → TermFits t) c.args.terms.now c.loop-term.term-index _ c.loop-term-test.true c.loop-term.invariant.1 c.in_ok-write_term.ensures.fits)

pub returns-clause-fits : goal.returns-clause-fits
returns-clause-fits c = All-same (λ t. IsShort t → TermFits t) _ _ (sym (take_all c.loop-term.term-index c.args.terms.now c.loop-term-test.false)) c.loop-term.invariant.1
