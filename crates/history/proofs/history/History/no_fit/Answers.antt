use Rattle.rules.specs.declared.step.Step.TheVariants.{NoFit}
use Rattle.table.specs.Tables.{state_of}
use Rattle.history.proofs.Links.{stays, no_fit_stays}
use Rattle.history.proofs.history.History.no_fit.Goals as goal

pub invariant_of-self-clause-linked : goal.invariant_of-self-clause-linked
invariant_of-self-clause-linked g c =
    stays _ c.args.self.now.linked c.no_fit.ensures.claims NoFit c.no_fit.ensures.blames c.no_fit.ensures.state (no_fit_stays (state_of c.args.self.now.table))
