use Rattle.std.proofs.Common.{not, sym, ap, ◌∙◌, arith}
use Rattle.rules.proofs.Moving.{move_counted}
use Rattle.search.proofs.Leading.{move_kept, none_from, ran_more}
use Rattle.search.proofs.solving.run.Goals as goal

pub loop-history-smaller : goal.loop-history-smaller
loop-history-smaller g c =
    let a = (move_kept c.turn-step.ensures.moved).allowance in
    omega (arith, move_counted c.turn-step.ensures.moved, a, c.count.ensures, c.allowance.ensures, c.if-count-allowance.true)

pub loop-history-preserved : goal.loop-history-preserved
loop-history-preserved g c =
    let i = c.loop-history.invariant in
    record {
      shape = c.turn-step.ensures.shape ∙ i.shape;
      ran = ran_more c.args.history.now c.loop-history.history c.turn-step.new.history _ _ _ _ _ _ _ i.shape i.ran (sym c.verdict.ensures ∙ none_from c.verdict.result (c.is_none.ensures ∙ ap not c.loop-history-test.true)) c.turn-step.ensures.moved c.turn-step.ensures.place c.in_ok-record.ensures.ok;
      room = omega (arith, i.room, c.turn-step.auto.fit);
    }
