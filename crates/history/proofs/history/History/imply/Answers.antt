use Rattle.std.proofs.Common.{◌≡◌, ◌∙◌, true, [], ◌∷◌, ◌++◌, take, refl, rules, sym, ap, subst}
use Rattle.std.proofs.lemmas.List.{length-map}
use Rattle.theory.specs.Literals.{complement}
use Rattle.theory.specs.Meaning.{impossible}
use Rattle.theory.specs.Members.{meaning_at}
use Rattle.rules.specs.States.{asserted}
use Rattle.rules.specs.Rules.{is_possible, says, leaves}
use Rattle.rules.specs.Moves.{denying}
use Rattle.rules.proofs.Accepted.{Fresh}
use Rattle.clauses.specs.Stored.{clause_of}
use Rattle.table.specs.Tables.{state_of, claims_of}
use Rattle.table.proofs.Next.{fresh_to}
use Rattle.history.specs.Seen.{means, state}
use Rattle.history.proofs.Asking.{some_found}
use Rattle.history.proofs.Links.{moved}
use Rattle.history.proofs.Steps.{implies, fresh_is, free_still, unready}
use Rattle.history.proofs.history.History.imply.Goals as goal

pub returns-in_err-check_fresh : goal.returns-in_err-check_fresh
returns-in_err-check_fresh g c =
    let is = unready c.args.self.now.linked c.args.l _ (sym c.in_err-check_fresh.was ∙ c.check_fresh.ensures) in
    let told = sym (ap says is) in
    record { shape = refl; says = search rules; state = sym (ap (leaves (state_of c.args.self.now.table)) is) }

pub find_denied-requires : goal.find_denied-requires
find_denied-requires g c =
    let h = c.find_possible.new.self in
    let s = state_of h.table in
    let f = fresh_is (claims_of h.table) s c.args.l (free_still c.args.l c.find_possible.ensures.table (sym c.in_ok-check_fresh.was ∙ c.check_fresh.ensures)) in
    fresh_to (claims_of h.table) s.trail c.args.l f.below f.off

pub invariant_of-self-2-clause-linked : goal.invariant_of-self-2-clause-linked
invariant_of-self-2-clause-linked g c =
    let h = c.find_denied.new.self in
    let M = means h in
    let s = state h in
    let xs = g.T.Theory.asserted h.theory in
    let same = c.find_denied.ensures.table ∙ c.find_possible.ensures.table in
    let shape = c.find_denied.ensures.shape ∙ c.find_possible.ensures.shape in
    let free = free_still c.args.l same (sym c.in_ok-check_fresh.was ∙ c.check_fresh.ensures) in
    let f : Fresh M.claims s c.args.l = subst (λ n. Fresh n s c.args.l) (sym h.linked.claims) (fresh_is (claims_of h.table) s c.args.l free) in
    let p : is_possible (M.answer xs) ≡ true = ap (λ ys. is_possible (M.answer ys)) h.linked.same
    ∙ ap (λ t. is_possible (M.answer (asserted (state_of t).trail))) same
    ∙ ap (λ x. is_possible ((meaning_at g.T.Theory x).answer (asserted (state_of c.args.self.now.table).trail))) shape
    ∙ sym c.find_possible.ensures.says ∙ c.if-not-find_possible.false in
    let q : M.answer (xs ++ complement c.args.l ∷ []) ≡ impossible (take c.in-Some.len h.core) = ap (λ ys. M.answer (ys ++ complement c.args.l ∷ [])) h.linked.same
    ∙ ap (λ t. M.answer (denying (state_of t).trail c.args.l)) c.find_denied.ensures.table
    ∙ ap (λ x. (meaning_at g.T.Theory x).answer (denying (state c.find_possible.new.self).trail c.args.l)) c.find_denied.ensures.shape
    ∙ some_found (means c.find_possible.new.self) (denying (state c.find_possible.new.self).trail c.args.l) h.core c.find_denied.result c.in-Some.len c.find_denied.ensures.asked c.in-Some.is in
    moved (meaning_at g.T.Theory) c.assert.ensures.shape c.assert.ensures.list
    (implies M h.linked c.imply.ensures.claims (g.met.T.Theory.lawful h.theory) c.args.l (take c.in-Some.len h.core) f p q
    (length-map h.table.blames.items clause_of ∙ sym h.table.blames_each) free c.imply.ensures.blames c.imply.ensures.state)
