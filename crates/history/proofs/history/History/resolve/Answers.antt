use Rattle.std.proofs.Common.{◌∙◌, refl, ap}
use Rattle.rules.specs.States.{says, leaves}
use Rattle.table.specs.Tables.{state_of}
use Rattle.history.proofs.Steps.{resolves, resolve_judged}
use Rattle.history.proofs.history.History.resolve.Goals as goal

pub invariant_of-self-clause-linked : goal.invariant_of-self-clause-linked
invariant_of-self-clause-linked g c = resolves _ c.args.self.now.linked c.resolve.ensures.claims c.resolve.ensures.blames c.resolve.ensures.state

pub returns : goal.returns
returns g c = record {
  shape = refl;
  says = c.resolve.ensures.says ∙ ap says (resolve_judged _ c.args.self.now.linked);
  state = c.resolve.ensures.state ∙ ap (leaves (state_of c.args.self.now.table)) (resolve_judged _ c.args.self.now.linked);
}
