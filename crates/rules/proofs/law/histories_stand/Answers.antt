use Rattle.rules.proofs.Histories.{histories_stand, reached_stand}
use Rattle.rules.proofs.law.histories_stand.Goals as goal

pub returns-clause-runs : goal.returns-clause-runs
returns-clause-runs g c = histories_stand _ (g.met.T.Theory.lawful c.args.theory.now)

pub returns-clause-states : goal.returns-clause-states
returns-clause-states g c = reached_stand _ (g.met.T.Theory.lawful c.args.theory.now)
