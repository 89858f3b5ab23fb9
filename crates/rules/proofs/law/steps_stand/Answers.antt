use Rattle.rules.proofs.Reached.{reached_known}
use Rattle.rules.proofs.Judging.{judged_rightly}
use Rattle.rules.proofs.law.steps_stand.Goals as goal

pub returns : goal.returns
returns g c =
    let law = g.met.T.Theory.lawful c.args.theory.now in
    λ s r x. judged_rightly _ law s (reached_known _ law s r).facts x
