-- The two halves of the way to the merge at which the terms met are marked first, then what the merge rests on, then the merge.
use Rattle.std.proofs.Common.{◌≡◌, ℕ, ◌<◌, Bool, true, ◌||◌, List, length, set, sym, ap, ◌∙◌, subst, arith}
use Rattle.std.proofs.lemmas.List.{get_or_default}
use Rattle.theory.specs.declared.term.Term.{Term}
use Rattle.theory.specs.Terms.{at}
use Rattle.congruence.specs.declared.step.Step.{Step}
use Rattle.congruence.specs.declared.step.Reason.TheVariants.{Congruence}
use Rattle.congruence.specs.Table.{arg}
use Rattle.congruence.specs.Congruence.{Congruent}
use Rattle.congruence.specs.Merges.{any_below, needed}
use Rattle.congruence.specs.Log.{Rightful}
use Rattle.equality.specs.declared.explain.Ends.{Ends}
use Rattle.equality.specs.Logs.{until, step_at, label_at}
use Rattle.equality.specs.Marked.{Joins, Sides, Grown, basis}
use Rattle.equality.proofs.Growing.{formed_at}
use Rattle.equality.proofs.Marking.{needed_none, needed_met, grown_none, grown_trans, grown_as, grown_marked, grown_mark, set_kept, covered_kept, or_same, any_more, asserted_covers, congruent_basis, congruent_args}
use Rattle.equality.proofs.closure.Closure.+explain.Goals as goal
use Rattle.equality.proofs.closure.Closure.+explain.Goals.{After-index-s}

-- the two halves of the way, and then the merge between them
whole_way : (ts : List Term) (ss : List Step) (ms ns os qs : List Bool) (t u k n : ℕ) (r : Ends) → k < n → Joins ss t u k → Sides ts ss t u k r
    → Grown ts ss ms ns (λ p. needed ts (until ss k) p t r.near) → Grown ts ss ns os (λ p. needed ts (until ss k) p r.far u)
    → Grown ts ss os qs (basis ts ss k) → Grown ts ss ms qs (λ p. needed ts (until ss n) p t u)
whole_way ts ss ms ns os qs t u k n r h j s a b c =
    grown_as ts ss ms qs (λ p. (needed ts (until ss k) p t r.near || needed ts (until ss k) p r.far u) || basis ts ss k p) _
    (λ p. needed_met ts ss p t u k n h j ∙ ap (λ (x : Bool). x || basis ts ss k p) (s.way (needed ts (until ss k) p)))
    (grown_trans ts ss ms os qs _ (basis ts ss k) (grown_trans ts ss ms ns os _ _ a b) c)

-- the merge that was read, and that it is rightful
read : (t : ℕ) (c : After-index-s t) → c.index-s.result.now ≡ step_at c.args.self.now.steps.items c.joining-k.result
read t c = c.index-s.ensures ∙ get_or_default c.args.self.now.steps.items c.joining-k.result _ _ (omega (arith, c.joining-k.ensures.below, c.requires.upto))

here : (t : ℕ) (c : After-index-s t)
    → Rightful c.args.self.now.terms.records.now (λ p a b. Unit {0}) (label_at c.args.self.now.steps.items c.joining-k.result) (step_at c.args.self.now.steps.items c.joining-k.result)
here t c = (formed_at c.args.self.now.terms.records.now c.args.self.now.steps.items _ c.joining-k.result (omega (arith, c.joining-k.ensures.below, c.requires.upto)) c.args.self.now.formed).0

-- two terms that were merged for congruence
record Pair (ts : List Term) (ss : List Step) (k l r : ℕ) : Type 0 where
  left_in : l < length ts
  right_in : r < length ts
  alike : Congruent ts (label_at ss k) l r
  rests : (p : ℕ) → basis ts ss k p ≡ any_below (at ts l).arity (λ i. needed ts (until ss k) p (arg (at ts l) i) (arg (at ts r) i))

pair : (ts : List Term) (ss : List Step) (k l r : ℕ) (s : Step) → Rightful ts (λ p a b. Unit {0}) (label_at ss k) (step_at ss k) → s ≡ step_at ss k → s.reason ≡ Congruence
    → l ≡ s.left → r ≡ s.right → Pair ts ss k l r
pair ts ss k l r s here is why el er =
    let e : (step_at ss k).reason ≡ Congruence = ap (λ (x : Step). x.reason) (sym is) ∙ why in
    subst (λ (x : ℕ). Pair ts ss k x r) (sym (el ∙ ap (λ (x : Step). x.left) is))
    (subst (Pair ts ss k (step_at ss k).left) (sym (er ∙ ap (λ (x : Step). x.right) is))
    (record { left_in = here.left_in; right_in = here.right_in; alike = congruent_args ts ss k e here; rests = congruent_basis ts ss k e }))

pub returns-then-t-u : goal.returns-then-t-u
returns-then-t-u t c =
    let s = c.args.self.now in
    grown_none s.terms.records.now s.steps.items c.args.marks.now _ c.requires.whole
    (λ p. ap (needed s.terms.records.now (until s.steps.items c.args.upto) p c.args.t) (sym c.if-t-u.true)
    ∙ needed_none s.terms.records.now (until s.steps.items c.args.upto) p c.args.t)

pub returns-then-marks-k : goal.returns-then-marks-k
returns-then-marks-k t c =
    let s = c.args.self.now in
    whole_way s.terms.records.now s.steps.items c.args.marks.now c.explain.new.marks c.explain-2.new.marks c.explain-2.new.marks
    c.args.t c.args.u c.joining-k.result c.args.upto c.sides-by.result c.joining-k.ensures.below c.joining-k.ensures.joins c.sides-by.ensures
    c.explain.ensures c.explain-2.ensures
    (grown_marked s.terms.records.now s.steps.items _ c.joining-k.result (omega (arith, c.joining-k.ensures.below, c.requires.upto)) c.explain-2.ensures.whole c.if-marks-k.true)

pub bounds-self-from : goal.bounds-self-from
bounds-self-from t c =
    let d = (goal.at.bounds-self-from t c).After-index-s in
    omega (arith, c.from.ensures, ap (λ (x : Step). x.left) (read t d), (here t d).left_in)

pub offset_bounds-self-from : goal.offset_bounds-self-from
offset_bounds-self-from t c =
    let d = (goal.at.offset_bounds-self-from t c).After-index-s in
    record { fits = omega (arith, c.from.ensures, ap (λ (x : Step). x.left) (read t d), (here t d).left_in, c.args.self.now.terms.few) }

pub bounds-self-from-in-Congruence : goal.bounds-self-from-in-Congruence
bounds-self-from-in-Congruence t c =
    let d = (goal.at.bounds-self-from-in-Congruence t c).After-index-s in
    omega (arith, c.from-in-Congruence.ensures, ap (λ (x : Step). x.right) (read t d), (here t d).right_in)

pub offset_bounds-self-from-in-Congruence : goal.offset_bounds-self-from-in-Congruence
offset_bounds-self-from-in-Congruence t c =
    let d = (goal.at.offset_bounds-self-from-in-Congruence t c).After-index-s in
    record { fits = omega (arith, c.from-in-Congruence.ensures, ap (λ (x : Step). x.right) (read t d), (here t d).right_in, c.args.self.now.terms.few) }

pub explain-requires-in-loop-i : goal.explain-requires-in-loop-i
explain-requires-in-loop-i t c =
    let s = c.args.self.now in
    let d = (goal.at.explain-requires-in-loop-i t c).After-index-s in
    let w = pair s.terms.records.now s.steps.items c.joining-k.result c.from.result c.from-in-Congruence.result c.index-s.result.now (here t d) (read t d) c.in-Congruence.is c.from.ensures c.from-in-Congruence.ensures in
    let i : c.loop-i.i < (at s.terms.records.now c.from.result).arity = omega (arith, c.loop-i-test.true, c.from-i-end.ensures) in (
      omega (arith, c.joining-k.ensures.below, c.decreases),
      (
        omega (arith, c.joining-k.ensures.below, c.requires.upto),
        (
          omega (arith, c.requires.long, c.explain.ensures.long, c.explain-2.ensures.long, c.loop-i.invariant.long),
          (
            omega (arith, s.terms.lower c.from.result w.left_in c.loop-i.i i, w.left_in),
            (
              omega (arith, s.terms.lower c.from-in-Congruence.result w.right_in c.loop-i.i (omega (arith, i, w.alike.1)), w.right_in),
              (w.alike.2 c.loop-i.i i, c.loop-i.invariant.whole),
            ),
          ),
        ),
      ),
    )

pub loop-i-preserved : goal.loop-i-preserved
loop-i-preserved t c =
    let s = c.args.self.now in
    grown_as s.terms.records.now s.steps.items c.explain-2.new.marks c.explain-in-loop-i.new.marks _ _
    (λ p. any_more c.loop-i.i _)
    (grown_trans s.terms.records.now s.steps.items c.explain-2.new.marks c.loop-i.marks c.explain-in-loop-i.new.marks _ _ c.loop-i.invariant c.explain-in-loop-i.ensures)

pub returns-in-Asserted : goal.returns-in-Asserted
returns-in-Asserted t c =
    let s = c.args.self.now in
    let d = (goal.at.returns-in-Asserted t c).After-index-s in
    let os = c.explain-2.new.marks in
    let k = c.joining-k.result in
    let inside : k < length s.steps.items = omega (arith, c.joining-k.ensures.below, c.requires.upto) in
    let in_marks : k < length os = omega (arith, c.explain-2.ensures.long, c.explain.ensures.long, c.requires.long, inside) in
    whole_way s.terms.records.now s.steps.items c.args.marks.now c.explain.new.marks os (set os k true)
    c.args.t c.args.u k c.args.upto c.sides-by.result c.joining-k.ensures.below c.joining-k.ensures.joins c.sides-by.ensures
    c.explain.ensures c.explain-2.ensures
    (grown_mark s.terms.records.now s.steps.items os k inside in_marks c.explain-2.ensures.whole
    (asserted_covers s.terms.records.now s.steps.items os k c.in-Asserted.field-0 inside in_marks (ap (λ (x : Step). x.reason) (sym (read t d)) ∙ c.in-Asserted.is)))

-- a merge of congruent terms is marked once its arguments are covered
mark_congruent : (ts : List Term) (ss : List Step) (os qs : List Bool) (k : ℕ) (f : ℕ → Bool) → k < length ss → k < length qs
    → ((p : ℕ) → basis ts ss k p ≡ f p) → Grown ts ss os qs f → Grown ts ss os (set qs k true) (basis ts ss k)
mark_congruent ts ss os qs k f h hm same g =
    let b : Grown ts ss os qs (basis ts ss k) = grown_as ts ss os qs f (basis ts ss k) same g in
    let m : Grown ts ss qs (set qs k true) (basis ts ss k) = grown_mark ts ss qs k h hm g.whole
    (λ p x. covered_kept ss qs (set qs k true) (set_kept qs k hm) p (b.all p x)) in
    grown_as ts ss os (set qs k true) (λ p. basis ts ss k p || basis ts ss k p) (basis ts ss k) (λ p. sym (or_same (basis ts ss k p)))
    (grown_trans ts ss os qs (set qs k true) (basis ts ss k) (basis ts ss k) b m)

pub returns-after-loop-i : goal.returns-after-loop-i
returns-after-loop-i t c =
    let s = c.args.self.now in
    let ts = s.terms.records.now in
    let ss = s.steps.items in
    let d = (goal.at.returns-after-loop-i t c).After-index-s in
    let os = c.explain-2.new.marks in
    let qs = c.loop-i.marks in
    let k = c.joining-k.result in
    let x = at ts c.from.result in
    let y = at ts c.from-in-Congruence.result in
    let w = pair ts ss k c.from.result c.from-in-Congruence.result c.index-s.result.now (here t d) (read t d) c.in-Congruence.is c.from.ensures c.from-in-Congruence.ensures in
    let inside : k < length ss = omega (arith, c.joining-k.ensures.below, c.requires.upto) in
    let in_marks : k < length qs = omega (arith, c.loop-i.invariant.long, c.explain-2.ensures.long, c.explain.ensures.long, c.requires.long, inside) in
    let all : x.arity ≡ c.loop-i.i = omega (arith, c.loop-i-test.false, c.loop-i.auto.i-end, c.from-i-end.ensures) in
    whole_way ts ss c.args.marks.now c.explain.new.marks os (set qs k true)
    c.args.t c.args.u k c.args.upto c.sides-by.result c.joining-k.ensures.below c.joining-k.ensures.joins c.sides-by.ensures
    c.explain.ensures c.explain-2.ensures
    (mark_congruent ts ss os qs k _ inside in_marks
    (λ p. w.rests p ∙ ap (λ (n : ℕ). any_below n (λ i. needed ts (until ss k) p (arg x i) (arg y i))) all) c.loop-i.invariant)
