use Rattle.rules.proofs.Histories.{reached_stand}
use Rattle.rules.proofs.Reached.{reached_known}
use Rattle.rules.proofs.Judging.{judged_rightly}
use Rattle.history.specs.Seen.{state}
use Rattle.history.proofs.history.History.stands.Goals as goal

pub returns-clause-state : goal.returns-clause-state
returns-clause-state g c = reached_stand _ (g.met.T.Theory.lawful c.args.self.now.theory) _ c.args.self.now.linked.reached

pub returns-clause-steps : goal.returns-clause-steps
returns-clause-steps g c =
    let h = c.args.self.now in
    let law = g.met.T.Theory.lawful h.theory in
    λ x. judged_rightly _ law (state h) (reached_known _ law (state h) h.linked.reached).facts x
