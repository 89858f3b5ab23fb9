use Rattle.rules.specs.declared.step.Step.TheVariants.{Conflict}
use Rattle.table.specs.Tables.{state_of}
use Rattle.history.proofs.Links.{stays, conflict_stays}
use Rattle.history.proofs.history.History.conflict.Goals as goal

pub invariant_of-self-clause-linked : goal.invariant_of-self-clause-linked
invariant_of-self-clause-linked g c =
    stays _ c.args.self.now.linked c.conflict.ensures.claims (Conflict c.args.c) c.conflict.ensures.blames c.conflict.ensures.state (conflict_stays (state_of c.args.self.now.table) c.args.c)
