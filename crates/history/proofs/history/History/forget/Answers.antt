use Rattle.rules.specs.declared.step.Step.TheVariants.{Forget}
use Rattle.table.specs.Tables.{state_of}
use Rattle.history.proofs.Links.{stays, forget_stays}
use Rattle.history.proofs.history.History.forget.Goals as goal

pub invariant_of-self-clause-linked : goal.invariant_of-self-clause-linked
invariant_of-self-clause-linked g c =
    stays _ c.args.self.now.linked c.forget.ensures.claims (Forget c.args.c) c.forget.ensures.blames c.forget.ensures.state (forget_stays (state_of c.args.self.now.table) c.args.c)
