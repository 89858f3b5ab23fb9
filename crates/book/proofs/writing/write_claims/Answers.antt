use Rattle.std.proofs.Common.{arith, sym}
use Rattle.std.specs.List.{All}
use Rattle.std.proofs.lemmas.Grind.{common_steps}
use Rattle.std.proofs.lemmas.List.{take_all}
use Rattle.std.proofs.lemmas.List.Elements.{All-same, All-more}
use Rattle.book.specs.Canonical.{ClaimFits, BoundFits}
use Rattle.book.proofs.writing.write_claims.Goals as goal

pub loop-claim-preserved : goal.loop-claim-preserved
loop-claim-preserved c =
    let kept = c.loop-claim.invariant.0 in
    (grind (arith, common_steps, kept), All-more ClaimFits c.deref-claim-items.result.now c.loop-claim.claim-index _ c.loop-claim-test.true c.loop-claim.invariant.1 c.in_ok-write_claim-in-Equality.ensures.fits)

pub loop-bound-preserved : goal.loop-bound-preserved
loop-bound-preserved c =
    let kept = c.loop-bound.invariant.0 in
    (grind (arith, common_steps, kept), All-more BoundFits c.deref-bound-items.result.now c.loop-bound.bound-index _ c.loop-bound-test.true c.loop-bound.invariant.1 c.in_ok-write_bound-in-Distance.ensures.fits)

pub returns-after-loop-claim-clause-fits : goal.returns-after-loop-claim-clause-fits
returns-after-loop-claim-clause-fits c =
    let items = c.deref-claim-items.result.now in
    let all : All ClaimFits items = All-same ClaimFits _ _ (sym (take_all c.loop-claim.claim-index items c.loop-claim-test.false)) c.loop-claim.invariant.1 in
    rw c.in-Equality.is (All-same ClaimFits _ _ (sym c.deref-claim-items.ensures.value) all)

pub returns-after-loop-bound-clause-fits : goal.returns-after-loop-bound-clause-fits
returns-after-loop-bound-clause-fits c =
    let items = c.deref-bound-items.result.now in
    let all : All BoundFits items = All-same BoundFits _ _ (sym (take_all c.loop-bound.bound-index items c.loop-bound-test.false)) c.loop-bound.invariant.1 in
    rw c.in-Distance.is (All-same BoundFits _ _ (sym c.deref-bound-items.ensures.value) all)
