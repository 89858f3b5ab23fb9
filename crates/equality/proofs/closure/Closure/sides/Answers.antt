use Rattle.std.proofs.Common.{◌≡◌, sym, ap, ◌∙◌, subst, arith}
use Rattle.std.proofs.lemmas.List.{get_or_default}
use Rattle.congruence.specs.declared.step.Step.{Step}
use Rattle.congruence.specs.Log.{Rightful}
use Rattle.equality.specs.Logs.{step_at, label_at}
use Rattle.equality.specs.Marked.{Sides}
use Rattle.equality.proofs.Growing.{formed_at}
use Rattle.equality.proofs.Marking.{sides_same, sides_other}
use Rattle.equality.proofs.closure.Closure.sides.Goals as goal
use Rattle.equality.proofs.closure.Closure.sides.Goals.{After-index-s, After-label-2}

-- the merge that was read, and that it is rightful
read : (c : After-index-s) → c.index-s.result.now ≡ step_at c.args.self.now.steps.items c.args.k
read c = c.index-s.ensures ∙ get_or_default c.args.self.now.steps.items c.args.k _ _ c.requires.merge

here : (c : After-index-s) → Rightful c.args.self.now.terms.records.now (λ p a b. Unit {0}) (label_at c.args.self.now.steps.items c.args.k) (step_at c.args.self.now.steps.items c.args.k)
here c = (formed_at c.args.self.now.terms.records.now c.args.self.now.steps.items _ c.args.k c.requires.merge c.args.self.now.formed).0

pub label-requires-2-clause-term : goal.label-requires-2-clause-term
label-requires-2-clause-term c =
    let d = (goal.at.label-requires-2-clause-term c).After-index-s in
    omega (arith, (here d).left_in, ap (λ (s : Step). s.left) (read d), c.args.self.now.terms.few)

pub returns-then-label : goal.returns-then-label
returns-then-label c =
    let s = c.args.self.now in
    let d = (goal.at.returns-then-label c).After-index-s in
    subst (λ (x : Step). Sides s.terms.records.now s.steps.items c.args.t c.args.u c.args.k record { near = x.left; far = x.right }) (sym (read d))
    (sides_same s.terms.records.now s.steps.items c.args.t c.args.u c.args.k c.requires.joins (here d)
    (sym c.label.ensures ∙ c.if-label.true ∙ c.label-2.ensures ∙ ap (λ (x : Step). label_at s.steps.items c.args.k x.left) (read d)))

pub returns-else-label : goal.returns-else-label
returns-else-label c =
    let s = c.args.self.now in
    let d = (goal.at.returns-else-label c).After-index-s in
    subst (λ (x : Step). Sides s.terms.records.now s.steps.items c.args.t c.args.u c.args.k record { near = x.right; far = x.left }) (sym (read d))
    (sides_other s.terms.records.now s.steps.items c.args.t c.args.u c.args.k c.requires.joins (here d)
    (λ e. c.if-label.false (c.label.ensures ∙ e ∙ sym (c.label-2.ensures ∙ ap (λ (x : Step). label_at s.steps.items c.args.k x.left) (read d)))))
