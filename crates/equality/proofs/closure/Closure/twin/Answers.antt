use Rattle.std.proofs.Common.{◌≡◌, ℕ, Some, sym, ap, ◌∙◌, subst, arith}
use Rattle.std.proofs.lemmas.Bool.{true≢false}
use Rattle.congruence.specs.Merges.{label}
use Rattle.equality.specs.Logs.{log, label_at}
use Rattle.equality.proofs.Nearest.{left, above}
use Rattle.equality.proofs.Twins.{Walked, walk_start, walk_hit, walk_same, walk_other, walk_end}
use Rattle.equality.proofs.closure.Closure.twin.Goals as goal
use Rattle.equality.proofs.closure.Closure.twin.Goals.{After-label-in-Some, else-label-via-then-label+else-same_arguments, else-label-via-else-label}

pub loop-near-init : goal.loop-near-init
loop-near-init c =
    let s = c.args.self.now in
    subst (Walked s.terms.records.now (label (log s.steps.items)) c.args.t) (sym c.nearest-near.ensures) (walk_start s.terms.records.now (label (log s.steps.items)) c.args.t)

pub label-requires-in-Some-clause-term : goal.label-requires-in-Some-clause-term
label-requires-in-Some-clause-term c = omega (arith, (c.loop-near.invariant.found c.in-Some.u c.in-Some.is).0, c.requires, c.args.self.now.terms.few)

pub same_arguments-requires-clause-other : goal.same_arguments-requires-clause-other
same_arguments-requires-clause-other c = omega (arith, (c.loop-near.invariant.found c.in-Some.u c.in-Some.is).0, c.requires)

pub same_arguments-requires-clause-head : goal.same_arguments-requires-clause-head
same_arguments-requires-clause-head c = (c.loop-near.invariant.found c.in-Some.u c.in-Some.is).1

-- where the walk stands, and that the labels read are those of the log
standing : (c : After-label-in-Some) → Walked c.args.self.now.terms.records.now (label (log c.args.self.now.steps.items)) c.args.t (Some c.in-Some.u)
standing c = subst (Walked c.args.self.now.terms.records.now (label (log c.args.self.now.steps.items)) c.args.t) c.in-Some.is c.loop-near.invariant

read : (c : After-label-in-Some) (t : ℕ) → label_at c.args.self.now.steps.items c.merges-k.result t ≡ label (log c.args.self.now.steps.items) t
read c t = ap (λ (n : ℕ). label_at c.args.self.now.steps.items n t) (c.merges-k.ensures)

pub returns-then-same_arguments : goal.returns-then-same_arguments
returns-then-same_arguments c =
    let s = c.args.self.now in
    let d = (goal.at.returns-then-same_arguments c).After-label-in-Some in
    sym (walk_hit s.terms.records.now (label (log s.steps.items)) c.args.t c.in-Some.u (standing d)
    (λ e. c.if-label.true (c.label.ensures ∙ read d c.args.t ∙ e ∙ sym (read d c.in-Some.u) ∙ sym c.label-in-Some.ensures))
    (c.same_arguments.ensures.0 c.if-same_arguments.true))

pub nearest-near-requires-in-Some : goal.nearest-near-requires-in-Some
nearest-near-requires-in-Some c = omega (arith, (c.loop-near.invariant.found c.in-Some.u c.in-Some.is).0, c.requires)

pub loop-near-smaller : goal.loop-near-smaller
loop-near-smaller c =
    omega (arith, ap left c.nearest-near-in-Some.ensures, (above c.args.self.now.terms.records.now c.in-Some.u).0, ap left c.in-Some.is)

pub loop-near-preserved : goal.loop-near-preserved
loop-near-preserved c =
    let s = c.args.self.now in
    let ts = s.terms.records.now in
    let num = label (log s.steps.items) in
    let d = (goal.at.loop-near-preserved c).After-label-in-Some in
    subst (Walked ts num c.args.t) (sym c.nearest-near-in-Some.ensures)
    (elim c.else-label.branch [
      | else-label-via-then-label+else-same_arguments w ↦
          walk_other ts num c.args.t c.in-Some.u (standing d) (λ x. true≢false (sym (w.same_arguments.ensures.1 x) ∙ w.if-same_arguments.false))
      | else-label-via-else-label w ↦
          walk_same ts num c.args.t c.in-Some.u (standing d)
          (sym (c.label.ensures ∙ read d c.args.t) ∙ w.if-label.false ∙ c.label-in-Some.ensures ∙ read d c.in-Some.u)
    ])

pub returns : goal.returns
returns c =
    let s = c.args.self.now in
    sym (walk_end s.terms.records.now (label (log s.steps.items)) c.args.t
    (subst (Walked s.terms.records.now (label (log s.steps.items)) c.args.t) c.in_default.is c.loop-near.invariant))
