use Rattle.std.proofs.Common.{false, ap, ◌∙◌}
use Rattle.std.proofs.lemmas.List.{take_all}
use Rattle.rules.specs.Clauses.{set_of}
use Rattle.rules.specs.Rules.{resolved}
use Rattle.clauses.specs.Sets.{members}
use Rattle.clauses.proofs.Sets.{with, resolve_start, resolve_more, resolve_skip}
use Rattle.clauses.proofs.set.LiteralSet.resolve.Goals as goal
use Rattle.clauses.proofs.set.LiteralSet.resolve.Goals.{then-m-l, else-m-l}

pub loop-m-init : goal.loop-m-init
loop-m-init c =
    c.mark.ensures ∙ ap (λ l. set_of (with (members c.args.self.now) l false)) c.complement_of.ensures ∙ resolve_start (members c.args.self.now) c.args.l

pub loop-m-preserved : goal.loop-m-preserved
loop-m-preserved c =
    let C = members c.args.self.now in
    let R = c.args.clause.now in
    elim c.if-m-l.branch [
      | then-m-l w ↦ ap members w.self-is ∙ w.mark-then-m-l.ensures ∙ resolve_more C c.args.l R c.loop-m.m-index _ c.loop-m-test.true w.if-m-l.true c.loop-m.invariant
      | else-m-l w ↦ ap members w.self-is ∙ c.loop-m.invariant ∙ resolve_skip C c.args.l R c.loop-m.m-index c.loop-m-test.true w.if-m-l.false
    ]

pub returns : goal.returns
returns c = c.loop-m.invariant ∙ ap (resolved (members c.args.self.now) c.args.l) (take_all c.loop-m.m-index c.args.clause.now c.loop-m-test.false)
