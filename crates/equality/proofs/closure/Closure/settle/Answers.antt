use Rattle.std.proofs.Common.{◌+◌, ◌-◌, sym, refl, ap, ◌∙◌, arith}
use Rattle.equality.specs.declared.terms.Terms.{Terms}
use Rattle.equality.proofs.Growing.{settle_start, settle_more, settle_still_by, settle_end}
use Rattle.equality.proofs.closure.Closure.settle.Goals as goal

pub loop-init : goal.loop-init
loop-init c = record {
  terms = refl;
  settling = settle_start c.args.self.now.terms.records.now _ c.args.self.now.steps.items (omega (arith, c.len-end.ensures));
}

pub returns-then-merges-clause-ran : goal.returns-then-merges-clause-ran
returns-then-merges-clause-ran c =
    settle_still_by c.args.self.now.terms.records.now c.loop.self.terms.records.now _ c.args.self.now.steps.items c.loop.self.steps.items c.sweep.new.self.steps.items
    (ap (λ (t : Terms). t.records.now) c.loop.invariant.terms)
    (sym c.merges.ensures ∙ c.if-merges.true ∙ c.merges-merges.ensures)
    c.loop.invariant.settling c.sweep.ensures.ran

pub loop-preserved : goal.loop-preserved
loop-preserved c = record {
  terms = c.sweep.ensures.terms ∙ c.loop.invariant.terms;
  settling = settle_more c.args.self.now.terms.records.now c.loop.self.terms.records.now (c.len-end.result - c.loop.counter) (c.len-end.result - (c.loop.counter + 1)) c.args.self.now.steps.items c.loop.self.steps.items c.sweep.new.self.steps.items
      (ap (λ (t : Terms). t.records.now) c.loop.invariant.terms) (omega (arith, c.loop-test.true)) c.loop.invariant.settling c.sweep.ensures.ran;
}

pub returns-clause-ran : goal.returns-clause-ran
returns-clause-ran c =
    settle_end c.args.self.now.terms.records.now (c.len-end.result - c.loop.counter) c.args.self.now.steps.items c.loop.self.steps.items (omega (arith, c.loop-test.false)) c.loop.invariant.settling
