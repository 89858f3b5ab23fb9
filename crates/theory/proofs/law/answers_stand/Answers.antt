use Rattle.theory.proofs.Answers.{exact}
use Rattle.theory.proofs.law.answers_stand.Goals as goal

pub returns : goal.returns
returns g c = exact _ (g.met.T.Theory.lawful c.args.theory.now)
