use Rattle.std.proofs.Common.{Bool, List, length, sym, ap, ◌∙◌}
use Rattle.congruence.specs.declared.step.Step.{Step}
use Rattle.congruence.specs.Merges.{first, when, label}
use Rattle.equality.specs.Logs.{log}
use Rattle.equality.proofs.Asking.{first_none, first_more, first_hit, clash_by}
use Rattle.equality.proofs.closure.Closure.clash.Goals as goal

pub loop-p-init : goal.loop-p-init
loop-p-init c = first_none _

pub returns-then-clashing : goal.returns-then-clashing
returns-then-clashing c =
    let ls = c.args.list.now in
    let num = label (log c.args.self.now.steps.items) in
    sym (first_hit (length ls) (clash_by num c.args.claims.now ls) c.loop-p.p c.loop-p.p c.loop-p-test.true c.loop-p.invariant
    (ap (λ (b : Bool). when b c.loop-p.p) (sym c.clashing.ensures ∙ c.if-clashing.true)))
    ∙ ap (λ (l : List Step). first (length ls) (clash_by (label l) c.args.claims.now ls)) c.requires.log

pub loop-p-preserved : goal.loop-p-preserved
loop-p-preserved c =
    first_more c.loop-p.p (clash_by (label (log c.args.self.now.steps.items)) c.args.claims.now c.args.list.now)
    c.loop-p.invariant (ap (λ (b : Bool). when b c.loop-p.p) (sym c.clashing.ensures ∙ c.if-clashing.false))
