use Rattle.std.proofs.Common.{◌∙◌, sym, ap}
use Rattle.theory.specs.Calls.{assert_leaves}
use Rattle.theory.specs.Members.{meaning_at}
use Rattle.history.proofs.Links.{moved, declines}
use Rattle.history.proofs.Steps.{jumps}
use Rattle.history.proofs.history.History.jump.Goals as goal

pub invariant_of-self : goal.invariant_of-self
invariant_of-self g c = record {
  linked = declines _ c.args.self.now.linked c.jump.ensures.claims _ c.jump.ensures.blames (sym c.in_err-count.was ∙ c.jump.ensures.says) c.jump.ensures.state;
  denies = c.args.self.now.denies;
  short = c.args.self.now.short;
}

pub invariant_of-self-in-Some-clause-linked : goal.invariant_of-self-in-Some-clause-linked
invariant_of-self-in-Some-clause-linked g c =
    let law = g.met.T.Theory.lawful c.args.self.now.theory in
    let few = λ (h : g.T.Theory.Shape). (meaning_at g.T.Theory h).claims in
    moved (meaning_at g.T.Theory) (c.assert.ensures.shape ∙ c.take_back.ensures.shape)
    (c.assert.ensures.list ∙ ap (λ n. assert_leaves n (g.T.Theory.asserted c.take_back.new.self) c.in-Some.last.literal) (ap few c.take_back.ensures.shape)
    ∙ ap (λ ys. assert_leaves (few (g.T.Theory.shape_of c.args.self.now.theory)) ys c.in-Some.last.literal) c.take_back.ensures.list)
    (jumps _ c.args.self.now.linked c.jump.ensures.claims law c.args.k c.args.c c.len.result c.in-Some.last c.jump.ensures.blames
    (sym c.in_ok-count.was ∙ c.jump.ensures.says) c.jump.ensures.state (sym c.in-Some.is ∙ c.last.ensures) c.len.ensures)
