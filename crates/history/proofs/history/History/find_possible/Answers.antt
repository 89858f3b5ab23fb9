use Rattle.std.proofs.Common.{not, ◌∙◌, sym, ap}
use Rattle.theory.specs.Members.{meaning, meaning_at}
use Rattle.history.proofs.Asking.{is_none_found, possible_is}
use Rattle.history.proofs.Links.{moved, finds}
use Rattle.history.proofs.history.History.find_possible.Goals as goal

pub invariant_of-self-clause-linked : goal.invariant_of-self-clause-linked
invariant_of-self-clause-linked g c =
    let M = meaning g.T.Theory c.args.self.now.theory in
    let xs = g.T.Theory.asserted c.args.self.now.theory in
    moved (meaning_at g.T.Theory) c.ask.ensures.shape c.ask.ensures.list (finds c.args.self.now.linked c.is_none-self.result
    (λ e. possible_is (M.answer xs) (sym (is_none_found M xs c.ask.new.place c.ask.result c.ask.ensures.asked) ∙ ap not c.is_none-self.ensures ∙ ap (λ b. not (not b)) e)))
