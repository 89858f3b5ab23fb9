use Rattle.std.proofs.Common.{ℕ, List, [], ◌∷◌, ◌++◌, length, vec_items, sym, ap, ◌∙◌, subst, arith}
use Rattle.theory.specs.declared.term.Term.{Term}
use Rattle.theory.specs.Literals.{Proper}
use Rattle.theory.specs.Asserted.{claims_of, literals_of}
use Rattle.theory.proofs.Lists.{taken, declined}
use Rattle.congruence.specs.Equality.{Named}
use Rattle.congruence.specs.Merges.{absorb}
use Rattle.equality.specs.declared.terms.Terms.{Terms}
use Rattle.equality.specs.Logs.{log, Ran}
use Rattle.equality.proofs.Holding.{Held, held, held_push}
use Rattle.equality.proofs.state.calls.EqualityTheory.assert.Goals as goal

pub invariant_of-self : goal.invariant_of-self
invariant_of-self c =
    let s = c.args.self.now in
    let same = c.in_err-push.ensures.list ∙ declined (claims_of s.list) (literals_of s.list) c.args.l c.in_err-push.ensures.says in
    let h = subst (λ (xs : List ℕ). Held s.closure.terms.records.now s.claims.now xs (vec_items s.merges) (vec_items s.closure.steps)) (sym same) (held s) in
    record {
      few = s.few;
      named = s.named;
      list_claims = c.in_err-push.ensures.claims ∙ s.list_claims;
      merges_room = s.merges_room;
      merges_long = h.merges_long;
      rising = h.rising;
      logged = h.logged;
      latest = h.latest;
      marks_long = s.marks_long;
      clear = s.clear;
    }

pub overflow_cast-p : goal.overflow_cast-p
overflow_cast-p c =
    let s = c.args.self.now in
    let p = c.in_ok-push.ensures in
    let w = taken s.list c.push.new.self c.args.l p.claims p.says p.list in
    record { fits = omega (arith, w.room, s.list_claims, ap length c.literals-p.ensures, s.few) }

pub push_reserved-requires : goal.push_reserved-requires
push_reserved-requires c =
    let s = c.args.self.now in
    let p = c.in_ok-push.ensures in
    let w = taken s.list c.push.new.self c.args.l p.claims p.says p.list in
    omega (arith, w.room, s.list_claims, s.merges.ok.0, s.merges_long, s.merges_room)

pub invariant_of-self-2 : goal.invariant_of-self-2
invariant_of-self-2 c =
    let s = c.args.self.now in
    let p = c.in_ok-push.ensures in
    let w = taken s.list c.push.new.self c.args.l p.claims p.says p.list in
    let proper = subst (λ (n : ℕ). Proper n (literals_of c.push.new.self)) s.list_claims w.proper in
    let same = ap (λ (t : Terms). t.records.now) c.absorb.ensures.terms in
    let rs = c.absorb.new.self.steps.items in
    let ran = subst (λ (n : ℕ). Ran s.closure.steps.items rs (absorb s.closure.terms.records.now s.claims.now n c.args.l (log s.closure.steps.items))) (ap length c.literals-p.ensures) c.absorb.ensures.ran in
    let h = held_push s.closure.terms.records.now s.claims.now (literals_of s.list) (vec_items s.merges) s.closure.steps.items (held s) c.absorb.new.self.terms.records.now c.args.l
    (literals_of c.push.new.self) (vec_items c.push_reserved.new.self) rs same proper w.longer
    (c.push_reserved.ensures.items ∙ ap (λ (n : ℕ). vec_items s.merges ++ n ∷ []) (c.merges-merges.ensures)) ran in
    record {
      few = s.few;
      named = subst (λ (t : List Term). Named t s.claims.now) (sym same) s.named;
      list_claims = p.claims ∙ s.list_claims;
      merges_room = omega (arith, s.merges_room, c.push_reserved.ensures.capacity);
      merges_long = h.merges_long;
      rising = h.rising;
      logged = h.logged;
      latest = h.latest;
      marks_long = s.marks_long;
      clear = s.clear;
    }
