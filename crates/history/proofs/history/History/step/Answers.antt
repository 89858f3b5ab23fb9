use Rattle.std.proofs.Common.{◌≤◌, ◌∙◌, ◌++◌, length, take, drop, sym, ap, arith}
use Rattle.std.proofs.lemmas.List.{length-take-le}
use Rattle.theory.specs.Members.{meaning}
use Rattle.rules.specs.declared.step.Step.TheVariants.{Fit}
use Rattle.rules.specs.Rules.{judge}
use Rattle.table.specs.Tables.{state_of}
use Rattle.history.specs.Fits.{fit_over, within, written}
use Rattle.history.proofs.Steps.{placed}
use Rattle.history.proofs.history.History.step.Goals as goal

pub returns-in-Fit-clause-place : goal.returns-in-Fit-clause-place
returns-in-Fit-clause-place g c =
    let M = meaning g.T.Theory c.args.self.now.theory in
    let s = state_of c.args.self.now.table in
    let place = c.args.place.now in
    let m = c.min-len.result in
    let low : m ≤ length place = omega (arith, c.min-len.ensures) in
    ap (λ ys. ys ++ drop m place) c.fit.ensures.place
    ∙ ap (λ k. written M s (judge M s (Fit k)) (take m place) ++ drop m place) (length-take-le m place low)
    ∙ placed M (g.met.T.Theory.lawful c.args.self.now.theory) s c.args.self.now.linked.reached m place low
    ∙ ap (λ k. written M s (judge M s (Fit k)) place) c.min-len.ensures
    ∙ sym (ap (λ x. fit_over M s (within (length place) x) place) c.in-Fit.is)
