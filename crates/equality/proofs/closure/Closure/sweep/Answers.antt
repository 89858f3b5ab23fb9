use Rattle.std.proofs.Common.{refl, ap, ◌∙◌}
use Rattle.equality.specs.declared.terms.Terms.{Terms}
use Rattle.equality.proofs.Growing.{sweep_none, sweep_more}
use Rattle.equality.proofs.closure.Closure.sweep.Goals as goal

pub loop-t-init : goal.loop-t-init
loop-t-init c = record { terms = refl; ran = sweep_none c.args.self.now.terms.records.now c.args.self.now.steps.items }

pub loop-t-preserved : goal.loop-t-preserved
loop-t-preserved c = record {
  terms = c.pass.ensures.terms ∙ c.loop-t.invariant.terms;
  ran = sweep_more c.args.self.now.terms.records.now c.loop-t.self.terms.records.now c.loop-t.t c.args.self.now.steps.items c.loop-t.self.steps.items c.pass.new.self.steps.items
      (ap (λ (t : Terms). t.records.now) c.loop-t.invariant.terms) c.loop-t.invariant.ran c.pass.ensures.ran;
}
