use Rattle.std.proofs.Common.{IsTrue, ◌∙◌, sym, subst}
use Rattle.std.proofs.lemmas.Bool.{both_ways}
use Rattle.history.specs.Seen.{means, state}
use Rattle.history.specs.Next.{Implied}
use Rattle.history.proofs.Next.{implied_asked, implied_not}
use Rattle.history.proofs.history.History.is_implied.Goals as goal

pub returns-then-is_fresh-clause-says : goal.returns-then-is_fresh-clause-says
returns-then-is_fresh-clause-says g c =
    let h = c.args.self.now in
    subst (λ b. (IsTrue b → Implied (means h) (state h) c.args.l) × (Implied (means h) (state h) c.args.l → IsTrue b)) (sym c.is_some.ensures)
    (implied_asked (means h) (g.met.T.Theory.lawful h.theory) h.linked c.args.l (sym c.is_fresh.ensures ∙ c.if-is_fresh.true) c.find_denied.new.self.core c.find_denied.result c.find_denied.ensures.asked)

pub returns-else-is_fresh-clause-says : goal.returns-else-is_fresh-clause-says
returns-else-is_fresh-clause-says g c =
    let h = c.args.self.now in (
      λ q. absurd (both_ways c.is_fresh.result c.if-is_fresh.false q),
      λ i. absurd (implied_not (means h) (g.met.T.Theory.lawful h.theory) h.linked c.args.l (sym c.is_fresh.ensures ∙ c.if-is_fresh.false) i),
    )
