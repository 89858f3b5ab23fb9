use Rattle.std.proofs.Common.{◌∙◌, ap}
use Rattle.theory.specs.Members.{meaning, meaning_at}
use Rattle.rules.specs.States.{says, leaves}
use Rattle.table.specs.Tables.{state_of}
use Rattle.history.proofs.Asking.{none_found, some_found}
use Rattle.history.proofs.Links.{moved, finds}
use Rattle.history.proofs.Steps.{clashes, clash_judged}
use Rattle.history.proofs.history.History.clash.Goals as goal

pub invariant_of-self-in_default-clause-linked : goal.invariant_of-self-in_default-clause-linked
invariant_of-self-in_default-clause-linked g c =
    let M = meaning g.T.Theory c.args.self.now.theory in
    let xs = g.T.Theory.asserted c.args.self.now.theory in
    moved (meaning_at g.T.Theory) c.ask.ensures.shape c.ask.ensures.list (finds c.args.self.now.linked _ (λ e. none_found M xs c.ask.new.place c.ask.result c.ask.ensures.asked c.in_default.is))

pub invariant_of-self-2-clause-linked : goal.invariant_of-self-2-clause-linked
invariant_of-self-2-clause-linked g c =
    let M = meaning g.T.Theory c.args.self.now.theory in
    let xs = g.T.Theory.asserted c.args.self.now.theory in
    moved (meaning_at g.T.Theory) c.ask.ensures.shape c.ask.ensures.list
    (clashes M c.args.self.now.linked c.clash.ensures.claims (g.met.T.Theory.lawful c.args.self.now.theory) _
    (some_found M xs _ c.ask.result c.in-Some.len c.ask.ensures.asked c.in-Some.is) c.clash.ensures.blames c.clash.ensures.state)

pub returns : goal.returns
returns g c =
    let M = meaning g.T.Theory c.args.self.now.theory in
    let xs = g.T.Theory.asserted c.args.self.now.theory in
    let judged = clash_judged M c.args.self.now.linked (g.met.T.Theory.lawful c.args.self.now.theory) _
    (some_found M xs c.ask.new.place c.ask.result c.in-Some.len c.ask.ensures.asked c.in-Some.is) in
    record {
      shape = c.ask.ensures.shape;
      says = c.clash.ensures.says ∙ ap says judged;
      state = c.clash.ensures.state ∙ ap (leaves (state_of c.args.self.now.table)) judged;
    }
