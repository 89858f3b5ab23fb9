use Rattle.std.proofs.Common.{◌≡◌, ◌≤◌, ℕ, List, length, get_or, take, vec_items, sym, ap, ◌∙◌, subst, arith}
use Rattle.std.proofs.lemmas.List.{get_or_default, length-take-le}
use Rattle.theory.specs.declared.term.Term.{Term}
use Rattle.theory.specs.Asserted.{literals_of}
use Rattle.theory.proofs.Lists.{kept, within, take_back_take}
use Rattle.congruence.specs.declared.step.Step.{Step}
use Rattle.congruence.specs.Equality.{Named}
use Rattle.equality.specs.Logs.{until}
use Rattle.equality.specs.declared.terms.Terms.{Terms}
use Rattle.equality.proofs.Growing.{until_take}
use Rattle.equality.proofs.Holding.{Held, held, held_cut}
use Rattle.equality.proofs.state.calls.EqualityTheory.take_back.Goals as goal

pub invariant_of-self : goal.invariant_of-self
invariant_of-self c =
    let s = c.args.self.now in
    let same = c.in_err-take_back.ensures.list ∙ kept (literals_of s.list) c.args.k c.in_err-take_back.ensures.says in
    let h = subst (λ (xs : List ℕ). Held s.closure.terms.records.now s.claims.now xs (vec_items s.merges) (vec_items s.closure.steps)) (sym same) (held s) in
    record {
      few = s.few;
      named = s.named;
      list_claims = c.in_err-take_back.ensures.claims ∙ s.list_claims;
      merges_room = s.merges_room;
      merges_long = h.merges_long;
      rising = h.rising;
      logged = h.logged;
      latest = h.latest;
      marks_long = s.marks_long;
      clear = s.clear;
    }

pub invariant_of-self-2 : goal.invariant_of-self-2
invariant_of-self-2 c =
    let s = c.args.self.now in
    let ts = s.closure.terms.records.now in
    let low : c.args.k ≤ length (literals_of s.list) = within (literals_of s.list) c.args.k c.in_ok-take_back.ensures.says in
    let n : c.index.result.now ≡ get_or (vec_items s.merges) c.args.k 0 = c.index.ensures ∙ get_or_default (vec_items s.merges) c.args.k _ 0 (omega (arith, low, s.merges_long)) in
    let few : get_or (vec_items s.merges) c.args.k 0 ≤ length s.closure.steps.items = omega (arith, s.rising c.args.k (length (literals_of s.list)) low (omega arith), s.latest) in
    let same = ap (λ (t : Terms). t.records.now) c.cut.ensures.terms in
    let rs = c.cut.new.self.steps.items in
    let cut : rs ≡ take (get_or (vec_items s.merges) c.args.k 0) s.closure.steps.items = c.cut.ensures.steps ∙ ap (λ (k : ℕ). take k s.closure.steps.items) n in
    let h = held_cut ts s.claims.now (literals_of s.list) (vec_items s.merges) (vec_items s.closure.steps) (held s)
    c.cut.new.self.terms.records.now c.args.k (literals_of c.take_back.new.self) (vec_items c.truncate.new.self) rs same low
    (c.in_ok-take_back.ensures.list ∙ take_back_take (literals_of s.list) c.args.k) c.truncate.ensures.items
    (λ j a. ap (λ (x : List Step). until x j) cut ∙ until_take s.closure.steps.items (get_or (vec_items s.merges) c.args.k 0) j a)
    (ap length cut ∙ length-take-le (get_or (vec_items s.merges) c.args.k 0) s.closure.steps.items few) in
    record {
      few = s.few;
      named = subst (λ (t : List Term). Named t s.claims.now) (sym same) s.named;
      list_claims = c.in_ok-take_back.ensures.claims ∙ s.list_claims;
      merges_room = omega (arith, s.merges_room, c.truncate.ensures.capacity);
      merges_long = h.merges_long;
      rising = h.rising;
      logged = h.logged;
      latest = h.latest;
      marks_long = s.marks_long;
      clear = s.clear;
    }
