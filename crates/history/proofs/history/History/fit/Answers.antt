use Rattle.std.proofs.Common.{◌≤◌, ◌∙◌, length, refl, rules, sym, ap, subst}
use Rattle.theory.specs.Members.{meaning, meaning_at}
use Rattle.rules.specs.States.{says, leaves}
use Rattle.table.specs.Tables.{state_of}
use Rattle.history.specs.Fits.{written}
use Rattle.history.proofs.Links.{moved}
use Rattle.history.proofs.Steps.{ends, incomplete, written_possible}
use Rattle.history.proofs.history.History.fit.Goals as goal

pub returns-in_err-check_complete-clause-judged : goal.returns-in_err-check_complete-clause-judged
returns-in_err-check_complete-clause-judged g c =
    let is = incomplete c.args.self.now.linked _ (sym c.in_err-check_complete.was ∙ c.check_complete.ensures) in
    let told = sym (ap says is) in
    record { shape = refl; says = search rules; state = sym (ap (leaves (state_of c.args.self.now.table)) is) }

pub returns-in_err-check_complete-clause-place : goal.returns-in_err-check_complete-clause-place
returns-in_err-check_complete-clause-place g c =
    let M = meaning g.T.Theory c.args.self.now.theory in
    let s = state_of c.args.self.now.table in
    sym (ap (λ o. written M s o c.args.place.now) (incomplete c.args.self.now.linked _ (sym c.in_err-check_complete.was ∙ c.check_complete.ensures)))

pub invariant_of-self-clause-linked : goal.invariant_of-self-clause-linked
invariant_of-self-clause-linked g c =
    let M = meaning g.T.Theory c.args.self.now.theory in
    let xs = g.T.Theory.asserted c.args.self.now.theory in
    moved (meaning_at g.T.Theory) c.write.ensures.shape c.write.ensures.list
    (ends M c.args.self.now.linked c.fit.ensures.claims (length c.args.place.now) (sym c.in_ok-check_complete.was ∙ c.check_complete.ensures)
    (written_possible M xs c.args.place.now (sym c.in-Ok.is ∙ c.write.ensures.says)) (subst (λ m. m ≤ length c.args.place.now) c.terms.ensures c.if-place-terms.false)
    c.fit.ensures.blames c.fit.ensures.state)
