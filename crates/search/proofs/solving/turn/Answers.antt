use Rattle.std.proofs.Common.{sym, ◌∙◌, arith}
use Rattle.search.proofs.Turning.{taken_second}
use Rattle.search.proofs.solving.turn.Goals as goal

pub returns-clause-moved : goal.returns-clause-moved
returns-clause-moved g c =
    (taken_second c.args.history.now c.propose.new.history c.step.new.self c.next_step-step.new.self c.step-2.new.self c.step.result c.step-2.result _ _ _ _ _ _
    c.propose.ensures.shape c.propose.ensures.state c.step.ensures.judged c.step.ensures.place (sym c.is_ok.ensures.value ∙ c.if-is_ok.false) c.next_step-step.ensures.same
    c.next_step-step.ensures.step c.stands-2.ensures.steps c.step-2.ensures.judged c.step-2.ensures.place c.requires.going (omega arith)).moved

pub returns-clause-place : goal.returns-clause-place
returns-clause-place g c =
    (taken_second c.args.history.now c.propose.new.history c.step.new.self c.next_step-step.new.self c.step-2.new.self c.step.result c.step-2.result _ _ _ _ _ _
    c.propose.ensures.shape c.propose.ensures.state c.step.ensures.judged c.step.ensures.place (sym c.is_ok.ensures.value ∙ c.if-is_ok.false) c.next_step-step.ensures.same
    c.next_step-step.ensures.step c.stands-2.ensures.steps c.step-2.ensures.judged c.step-2.ensures.place c.requires.going (omega arith)).place
