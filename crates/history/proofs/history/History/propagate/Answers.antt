use Rattle.std.proofs.Common.{◌∙◌, refl, sym}
use Rattle.theory.specs.Members.{meaning_at}
use Rattle.rules.specs.declared.entry.Reason.TheVariants.{Clause}
use Rattle.rules.specs.declared.step.Step.TheVariants.{Propagate}
use Rattle.rules.specs.Rules.{propagate}
use Rattle.table.specs.Tables.{state_of}
use Rattle.history.proofs.Links.{moved, declines, puts, propagate_pushes}
use Rattle.history.proofs.history.History.propagate.Goals as goal

pub invariant_of-self : goal.invariant_of-self
invariant_of-self g c = record {
  linked = declines _ c.args.self.now.linked c.propagate.ensures.claims _ c.propagate.ensures.blames (sym c.in_err-count.was ∙ c.propagate.ensures.says) c.propagate.ensures.state;
  denies = c.args.self.now.denies;
  short = c.args.self.now.short;
}

pub invariant_of-self-2-clause-linked : goal.invariant_of-self-2-clause-linked
invariant_of-self-2-clause-linked g c =
    let s = state_of c.args.self.now.table in
    moved (meaning_at g.T.Theory) c.assert.ensures.shape c.assert.ensures.list
    (puts _ c.args.self.now.linked c.propagate.ensures.claims (Propagate c.args.c c.args.l) c.args.l (Clause c.args.c) (λ n. propagate n s c.args.c c.args.l)
    (λ n. propagate_pushes n s c.args.c c.args.l) refl (λ e. cc)
    c.propagate.ensures.blames (sym c.in_ok-count.was ∙ c.propagate.ensures.says) c.propagate.ensures.state)
