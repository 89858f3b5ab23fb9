use Rattle.std.proofs.Common.{ap, ◌∙◌, sym, subst}
use Rattle.theory.specs.Members.{meaning_at}
use Rattle.rules.specs.declared.step.Step.TheVariants as step
use Rattle.rules.specs.Next.{ToBeHad}
use Rattle.history.specs.Seen.{means, state}
use Rattle.history.proofs.Next.{ready_had, fit_had, clash_had}
use Rattle.history.proofs.history.History.next_step.Goals as goal

pub returns-in-Some-clause-step : goal.returns-in-Some-clause-step
returns-in-Some-clause-step g c =
    let h = c.args.self.now in
    ready_had (means h) (g.met.T.Theory.lawful h.theory) h.linked c.in-Some.ensures

pub returns-then-find_possible-clause-step : goal.returns-then-find_possible-clause-step
returns-then-find_possible-clause-step g c =
    let h = c.args.self.now in
    let e = c.terms.ensures ∙ ap (λ (x : g.T.Theory.Shape). (meaning_at g.T.Theory x).terms) c.find_possible.ensures.shape in
    subst (λ n. ToBeHad (means h) (state h) (step.Fit n)) (sym e)
    (fit_had (means h) (g.met.T.Theory.lawful h.theory) h.linked c.in_default.ensures (sym c.find_possible.ensures.says ∙ c.if-find_possible.true))

pub returns-else-find_possible-clause-step : goal.returns-else-find_possible-clause-step
returns-else-find_possible-clause-step g c =
    let h = c.args.self.now in
    clash_had (means h) (g.met.T.Theory.lawful h.theory) h.linked c.in_default.ensures (sym c.find_possible.ensures.says ∙ c.if-find_possible.false)
