use Rattle.std.proofs.Common.{◌∙◌, refl, sym}
use Rattle.theory.specs.Members.{meaning_at}
use Rattle.rules.specs.declared.entry.Reason.TheVariants.{Decided}
use Rattle.rules.specs.declared.step.Step.TheVariants.{Decide}
use Rattle.rules.specs.Rules.{decide}
use Rattle.table.specs.Tables.{state_of}
use Rattle.history.proofs.Links.{moved, declines, puts, decide_pushes}
use Rattle.history.proofs.history.History.decide.Goals as goal

pub invariant_of-self : goal.invariant_of-self
invariant_of-self g c = record {
  linked = declines _ c.args.self.now.linked c.decide.ensures.claims _ c.decide.ensures.blames (sym c.in_err-count.was ∙ c.decide.ensures.says) c.decide.ensures.state;
  denies = c.args.self.now.denies;
  short = c.args.self.now.short;
}

pub invariant_of-self-2-clause-linked : goal.invariant_of-self-2-clause-linked
invariant_of-self-2-clause-linked g c =
    let s = state_of c.args.self.now.table in
    moved (meaning_at g.T.Theory) c.assert.ensures.shape c.assert.ensures.list
    (puts _ c.args.self.now.linked c.decide.ensures.claims (Decide c.args.l) c.args.l Decided (λ n. decide n s c.args.l) (λ n. decide_pushes n s c.args.l) refl (λ e. cc)
    c.decide.ensures.blames (sym c.in_ok-count.was ∙ c.decide.ensures.says) c.decide.ensures.state)
