use Rattle.std.proofs.Common.{◌≡◌, false, List, ℕ, ◌∷◌, [], ◌++◌, vec_items, sym, ap, ◌∙◌, subst, arith}
use Rattle.std.proofs.lemmas.List.{length_push}
use Rattle.theory.specs.Literals.{Proper, names}
use Rattle.theory.proofs.Claims.{proper_push, proper_few}
use Rattle.theory.proofs.asserted.Asserted.push.Goals as goal
use Rattle.theory.proofs.asserted.Asserted.push.Goals.{After-names}

longer : (c : goal.After-names) → c.names.result ≡ false → Proper c.args.self.now.claims (vec_items c.args.self.now.literals ++ c.args.l ∷ [])
longer c new =
    let a = c.args.self.now in
    proper_push a.claims (vec_items a.literals) c.args.l a.proper (omega arith)
    (ap (λ (x : List ℕ). names x c.args.l) (sym c.deref.ensures.value) ∙ sym c.names.ensures ∙ new)

pub push_reserved-requires : goal.push_reserved-requires
push_reserved-requires c =
    let a = c.args.self.now in
    let w = longer (goal.at.push_reserved-requires c).After-names c.if-names.false in
    omega (arith, proper_few a.claims (vec_items a.literals ++ c.args.l ∷ []) w, length_push (vec_items a.literals) c.args.l, a.room, a.literals.ok.0)

pub invariant_of-self : goal.invariant_of-self
invariant_of-self c =
    let a = c.args.self.now in
    record {
      room = omega (arith, c.push_reserved.ensures.capacity, a.room);
      proper = subst (Proper a.claims) (sym c.push_reserved.ensures.items) (longer (goal.at.invariant_of-self c).After-names c.if-names.false);
    }
