use Rattle.std.proofs.Common.{ℕ, false, List, length, ap, ◌∙◌, subst, arith}
use lib.ListN.{get_or-replicate}
use Rattle.congruence.specs.declared.step.Step.{Step}
use Rattle.congruence.specs.Merges.{needed}
use Rattle.equality.specs.Logs.{until}
use Rattle.equality.specs.Asked.{covers}
use Rattle.equality.specs.Marked.{Grown}
use Rattle.equality.proofs.Asking.{covers_test}
use Rattle.equality.proofs.closure.Closure.needed.Goals as goal

pub cite_all-requires-clause-clear : goal.cite_all-requires-clause-clear
cite_all-requires-clause-clear c = λ p h. get_or-replicate 128 p false false h

pub returns-clause-needed : goal.returns-clause-needed
returns-clause-needed c p h =
    let s = c.args.self.now in
    let ts = s.terms.records.now in
    let ss = s.steps.items in
    c.cite_all.ensures p (omega (arith, h, c.cite_all.auto.cited))
    ∙ ap (λ (x : List Step). covers x c.explain.new.marks (length x) p) c.deref.ensures.value
    ∙ covers_test ts ss c.args.marks.now c.explain.new.marks (λ q. needed ts (until ss (length ss)) q c.args.t c.args.u) p c.requires.clear
    (subst (λ (n : ℕ). Grown ts ss c.args.marks.now c.explain.new.marks (λ q. needed ts (until ss n) q c.args.t c.args.u)) c.merges.ensures c.explain.ensures)
