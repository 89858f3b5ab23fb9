use Rattle.std.proofs.Common.{◌≡◌, ℕ, ◌+◌, ◌-◌, ◌<◌, ◌≤◌, List, [], ◌∷◌, ◌++◌, length, set, take, ℤ, pos, ◌≤ℤ◌, ◌<ℤ◌, vec_items, vec_len, filter, None, MatchOption, IfSome, sym, refl, ap, ◌∙◌, subst, arith, rules, w64, to_z, of_z}
use Rattle.std.proofs.lemmas.Int.{ints}
use Rattle.std.specs.List.{AllByRecursion}
use Rattle.std.proofs.lemmas.List.{get_or_read, length_push}
use Rattle.difference.specs.declared.bound.Bound.{Bound}
use Rattle.difference.specs.Bounds.{no_bound, at, Named}
use Rattle.difference.specs.Settling.{limit, excess, worst, core, settle, outcome, fits, clash}
use Rattle.difference.specs.Depth.{Inside}
use Rattle.difference.proofs.Depth.{front_inside, inside_weaker, outcome_last}
use Rattle.distance.specs.Queue.{breaks, broken_on}
use Rattle.distance.proofs.Turning.{Turning, turn_start, turn_fits, turn_end, turn_within, turn_clash, turn_on, worst_far}
use Rattle.distance.proofs.Running.{Running, run_start, run_on, run_room}
use Rattle.distance.proofs.settle.Work.settle.Goals as goal
use Rattle.distance.proofs.settle.Work.settle.Goals.{After-index, In_ok-p, After-index-in-loop, Else-index-base, After-lower}

-- the numbers that were lent keep all bounds but the last
before_fits : (c : After-index) → outcome (length c.args.before.now) (take (length (vec_items c.args.self.now.bounds.items) - 1) (vec_items c.args.self.now.bounds.items)) ≡ fits c.args.before.now
before_fits c = ap (λ m. outcome m (take (length (vec_items c.args.self.now.bounds.items) - 1) (vec_items c.args.self.now.bounds.items))) c.requires.long ∙ c.requires.before

named : (c : After-index) → Named (length c.args.before.now) (vec_items c.args.self.now.bounds.items)
named c = subst (λ m. Named m (vec_items c.args.self.now.bounds.items)) (sym c.requires.long) c.args.self.now.bounds.named

base_is : (c : After-index) → c.index.result.now.base ≡ (at (vec_items c.args.self.now.bounds.items) (length (vec_items c.args.self.now.bounds.items) - 1)).base
base_is c =
    let bs : List Bound = vec_items c.args.self.now.bounds.items in
    let i : c.len-last.result - 1 < length bs = omega (arith, c.len-last.ensures, c.requires.some) in
    ap (λ (b : Bound). b.base) (get_or_read bs (c.len-last.result - 1) c.index.result.now i c.index.ensures no_bound) ∙ ap (λ n. (at bs (n - 1)).base) c.len-last.ensures

opened : (c : After-index) → outcome c.args.self.now.bounds.terms (vec_items c.args.self.now.bounds.items) ≡ settle (vec_items c.args.self.now.bounds.items) c.index.result.now.base (length c.args.before.now + 1) c.args.before.now []
opened c =
    let bs : List Bound = vec_items c.args.self.now.bounds.items in
    outcome_last c.args.self.now.bounds.terms bs c.args.before.now c.requires.some c.requires.before
    ∙ ap (λ m. settle bs (at bs (length bs - 1)).base (m + 1) c.args.before.now []) (sym c.requires.long)
    ∙ ap (λ u. settle bs u (length c.args.before.now + 1) c.args.before.now []) (sym (base_is c))

inside : (c : After-index) → Inside 39000 c.args.before.now
inside c =
    let s = c.args.self.now in
    front_inside s.bounds.terms (vec_items s.bounds.items) c.args.before.now c.requires.some s.bounds.few_terms (omega (arith, s.bounds.fits, s.bounds.few)) s.bounds.named s.bounds.small c.requires.before

pub invariant_of-self-clause-inside : goal.invariant_of-self-clause-inside
invariant_of-self-clause-inside c =
    subst (Inside 40000) (sym c.copy_from_slice.ensures.items) (inside_weaker 39000 40000 c.args.before.now (omega arith) (inside (goal.at.invariant_of-self-clause-inside c).After-index))

pub loop-init : goal.loop-init
loop-init c =
    let bs : List Bound = vec_items c.args.self.now.bounds.items in
    let d = (goal.at.loop-init c).After-index in
    let row : List ℤ = c.args.before.now in
    let u : ℕ = c.index.result.now.base in
    let t : Turning bs u row row [] 0 (length row + 1) = turn_start bs u row (inside d) in
    let r : Running bs u row row [] ((length bs - 1) ∷ []) = run_start bs u row c.requires.some (named d) (base_is d) (before_fits d) in
    let q : vec_items c.push_reserved.new.self ≡ (length bs - 1) ∷ [] =
    c.push_reserved.ensures.items ∙ ap (λ z. z ++ (c.len-last.result - 1) ∷ []) c.clear-2.ensures.items ∙ ap (λ n. (n - 1) ∷ []) c.len-last.ensures in
    let l : length row + 1 ≡ (length row + 1) - 0 = omega arith in
    (simp (c.clear.ensures.items, c.copy_from_slice.ensures.items) (subst (Turning bs u row row [] 0) l t), simp (c.clear.ensures.items, c.copy_from_slice.ensures.items, q) r, c.clear.ensures.len, refl)

-- ---- the bound that is broken most

left_over : (c : In_ok-p) → 0 < (length c.args.before.now + 1) - c.loop.counter
left_over c = omega (arith, c.loop-test.true)

picked : (c : In_ok-p) → (c.in_ok-p.p, c.in_ok-p.far) ≡ worst (vec_items c.loop.self.row) (vec_items c.args.self.now.bounds.items)
picked c = c.in_ok-p.ensures.picked.0 ∙ ap (λ b. worst (vec_items c.loop.self.row) (vec_items b.items)) c.loop.invariant.3

p_is : (c : In_ok-p) → c.in_ok-p.p ≡ (worst (vec_items c.loop.self.row) (vec_items c.args.self.now.bounds.items)).0
p_is c = ap (λ w. w.0) (picked c)

far_is : (c : In_ok-p) → c.in_ok-p.far ≡ (worst (vec_items c.loop.self.row) (vec_items c.args.self.now.bounds.items)).1
far_is c = ap (λ w. w.1) (picked c)

far_fits : (c : In_ok-p) → to_z w64 (of_z w64 c.in_ok-p.far) ≡ c.in_ok-p.far
far_fits c = grind (arith, ints, c.pick.type_inv, c.in_ok-p.was)

broken : (c : In_ok-p) → pos 0 <ℤ (worst (vec_items c.loop.self.row) (vec_items c.args.self.now.bounds.items)).1
broken c = subst (λ z. pos 0 <ℤ z) (far_is c) c.in_ok-p.ensures.picked.1

-- picking leaves the bounds and the row
same_bounds : (c : In_ok-p) → c.pick.new.self.bounds ≡ c.args.self.now.bounds
same_bounds c = c.pick.ensures.bounds ∙ c.loop.invariant.3

over : (P : List Bound → List ℤ → Type 0) (c : In_ok-p) → P (vec_items c.args.self.now.bounds.items) (vec_items c.loop.self.row) → P (vec_items c.pick.new.self.bounds.items) (vec_items c.pick.new.self.row)
over P c h = subst (λ b. P (vec_items b.items) (vec_items c.pick.new.self.row)) (sym (same_bounds c)) (subst (λ r. P (vec_items c.args.self.now.bounds.items) (vec_items r)) (sym c.pick.ensures.row) h)

p_in : (c : In_ok-p) → c.in_ok-p.p < length (vec_items c.args.self.now.bounds.items)
p_in c =
    turn_within (vec_items c.args.self.now.bounds.items) c.index.result.now.base c.args.before.now (vec_items c.loop.self.row) (vec_items c.loop.self.steps) c.loop.counter
    ((length c.args.before.now + 1) - c.loop.counter) c.loop.invariant.0 c.in_ok-p.p (left_over c) (p_is c) (broken c)

pub index-requires-in-loop : goal.index-requires-in-loop
index-requires-in-loop c =
    let d = (goal.at.index-requires-in-loop c).In_ok-p in
    omega (arith, over (λ bs r. c.in_ok-p.p < length bs) d (p_in d), c.pick.new.self.bounds.items.ok.0)

at_p : (c : After-index-in-loop) → c.index-in-loop.result.now ≡ at (vec_items c.args.self.now.bounds.items) c.in_ok-p.p
at_p c =
    let d = (goal.at.After-index-in-loop c).In_ok-p in
    get_or_read (vec_items c.pick.new.self.bounds.items) c.in_ok-p.p c.index-in-loop.result.now (over (λ bs r. c.in_ok-p.p < length bs) d (p_in d)) c.index-in-loop.ensures no_bound
    ∙ ap (λ b. at (vec_items b.items) c.in_ok-p.p) (same_bounds d)

pub returns-then-index-base : goal.returns-then-index-base
returns-then-index-base c =
    let bs : List Bound = vec_items c.args.self.now.bounds.items in
    let d = (goal.at.returns-then-index-base c).In_ok-p in
    let e : (at bs c.in_ok-p.p).term ≡ c.index.result.now.base = ap (λ (b : Bound). b.term) (sym (at_p (goal.at.returns-then-index-base c).After-index-in-loop)) ∙ c.if-index-base.true in
    record {
      settles = opened (goal.at.returns-then-index-base c).After-index
          ∙ turn_clash bs c.index.result.now.base c.args.before.now (vec_items c.loop.self.row) (vec_items c.loop.self.steps) c.loop.counter ((length c.args.before.now + 1) - c.loop.counter) c.loop.invariant.0
          c.in_ok-p.p (left_over d) (p_is d) (broken d) e
          ∙ ap (λ v. clash (core bs (vec_items v) c.in_ok-p.p)) (sym c.pick.ensures.steps);
      within = p_in d;
      positions = subst (λ v. AllByRecursion (λ q. q < length bs) (vec_items v)) (sym c.pick.ensures.steps) c.loop.invariant.0.positions;
      bounds = same_bounds d;
    }

pub returns-in_err-p : goal.returns-in_err-p
returns-in_err-p c =
    let bs : List Bound = vec_items c.args.self.now.bounds.items in
    let low : (worst (vec_items c.loop.self.row) bs).1 ≤ℤ pos 0 = subst (λ b. (worst (vec_items c.loop.self.row) (vec_items b.items)).1 ≤ℤ pos 0) c.loop.invariant.3 c.in_err-p.ensures.picked in
    let fit : outcome c.args.self.now.bounds.terms bs ≡ fits (vec_items c.pick.new.self.row) =
    opened (goal.at.returns-in_err-p c).After-index
    ∙ turn_fits bs c.index.result.now.base c.args.before.now (vec_items c.loop.self.row) (vec_items c.loop.self.steps) c.loop.counter ((length c.args.before.now + 1) - c.loop.counter) c.loop.invariant.0
    (omega (arith, c.loop-test.true)) low
    ∙ ap (λ r. fits (vec_items r)) (sym c.pick.ensures.row) in
    let none : c.from_residual.result ≡ None = search rules in
    record {
      settles = subst (λ o. MatchOption o (outcome c.args.self.now.bounds.terms bs ≡ fits (vec_items c.pick.new.self.row)) (λ p. outcome c.args.self.now.bounds.terms bs ≡ clash (core bs (vec_items c.pick.new.self.steps) p))) (sym none) fit;
      within = subst (λ o. IfSome o (λ p. p < length bs)) (sym none) tt;
      positions = subst (λ v. AllByRecursion (λ q. q < length bs) (vec_items v)) (sym c.pick.ensures.steps) c.loop.invariant.0.positions;
      bounds = c.pick.ensures.bounds ∙ c.loop.invariant.3;
    }

-- ---- the row is lowered

module _ (c : Else-index-base) where
  free : (at (vec_items c.args.self.now.bounds.items) c.in_ok-p.p).term ≡ c.index.result.now.base → ⊥
  free e = c.if-index-base.false (ap (λ (b : Bound). b.term) (at_p (goal.at.Else-index-base c).After-index-in-loop) ∙ e)

  room : length (filter (breaks (vec_items c.loop.self.row) (vec_items c.args.self.now.bounds.items)) (vec_items c.loop.self.queue))
      + length (broken_on (set (vec_items c.loop.self.row) (at (vec_items c.args.self.now.bounds.items) c.in_ok-p.p).term (limit (vec_items c.loop.self.row) (at (vec_items c.args.self.now.bounds.items) c.in_ok-p.p))) (vec_items c.args.self.now.bounds.items) (at (vec_items c.args.self.now.bounds.items) c.in_ok-p.p).term)
      ≤ length (vec_items c.args.self.now.bounds.items)
  room =
      let a = (goal.at.Else-index-base c).After-index in
      let d = (goal.at.Else-index-base c).In_ok-p in
      run_room (vec_items c.args.self.now.bounds.items) c.index.result.now.base c.args.before.now c.requires.some (named a) (base_is a) (before_fits a) (vec_items c.loop.self.row) (vec_items c.loop.self.steps) (vec_items c.loop.self.queue) c.loop.invariant.1
      c.in_ok-p.p (p_is d) (broken d) free

-- the queue as picking leaves it
kept : (c : In_ok-p) → vec_items c.pick.new.self.queue ≡ filter (breaks (vec_items c.loop.self.row) (vec_items c.args.self.now.bounds.items)) (vec_items c.loop.self.queue)
kept c = c.pick.ensures.kept ∙ ap (λ b. filter (breaks (vec_items c.loop.self.row) (vec_items b.items)) (vec_items c.loop.self.queue)) c.loop.invariant.3

pub lower-requires : goal.lower-requires
lower-requires c =
    let d = (goal.at.lower-requires c).In_ok-p in
    let t = c.loop.invariant.0 in
    let n : vec_len c.pick.new.self.steps ≡ c.loop.counter = ap vec_len c.pick.ensures.steps ∙ c.loop.invariant.2 in
    record {
      within = over (λ bs r. c.in_ok-p.p < length bs) d (p_in d);
      far_is = far_fits d ∙ over (λ bs r. c.in_ok-p.far ≡ excess r (at bs c.in_ok-p.p)) d (far_is d ∙ worst_far (vec_items c.loop.self.row) (vec_items c.args.self.now.bounds.items) c.in_ok-p.p (p_is d) (broken d));
      broken = subst (λ z. pos 0 <ℤ z) (sym (far_fits d)) c.in_ok-p.ensures.picked.1;
      inside = over (λ bs r. Inside 39999 r) d (inside_weaker (39000 + c.loop.counter) 39999 (vec_items c.loop.self.row) (omega (arith, c.loop-test.true, c.requires.long, c.args.self.now.bounds.few_terms)) t.inside);
      step_room = omega (arith, n, c.pick.new.self.steps.ok.0, c.loop-test.true, c.requires.long, c.pick.new.self.step_room, ap (λ b. b.terms) (same_bounds d));
      queue_room = over (λ bs r. length (vec_items c.pick.new.self.queue) + length (broken_on (set r (at bs c.in_ok-p.p).term (limit r (at bs c.in_ok-p.p))) bs (at bs c.in_ok-p.p).term) ≤ length bs) d
          (omega (arith, ap length (kept d), room (goal.at.lower-requires c).Else-index-base));
    }

module _ (c : After-lower) where
  lower_row : vec_items c.lower.new.self.row ≡ set (vec_items c.loop.self.row) (at (vec_items c.args.self.now.bounds.items) c.in_ok-p.p).term (limit (vec_items c.loop.self.row) (at (vec_items c.args.self.now.bounds.items) c.in_ok-p.p))
  lower_row =
      c.lower.ensures.row
      ∙ ap (λ b. set (vec_items c.pick.new.self.row) (at (vec_items b.items) c.in_ok-p.p).term (limit (vec_items c.pick.new.self.row) (at (vec_items b.items) c.in_ok-p.p))) (same_bounds (goal.at.After-lower c).In_ok-p)
      ∙ ap (λ r. set (vec_items r) (at (vec_items c.args.self.now.bounds.items) c.in_ok-p.p).term (limit (vec_items r) (at (vec_items c.args.self.now.bounds.items) c.in_ok-p.p))) c.pick.ensures.row

  lower_steps : vec_items c.lower.new.self.steps ≡ vec_items c.loop.self.steps ++ c.in_ok-p.p ∷ []
  lower_steps = c.lower.ensures.steps ∙ ap (λ v. vec_items v ++ c.in_ok-p.p ∷ []) c.pick.ensures.steps

  lower_queue : vec_items c.lower.new.self.queue ≡ filter (breaks (vec_items c.loop.self.row) (vec_items c.args.self.now.bounds.items)) (vec_items c.loop.self.queue)
      ++ broken_on (set (vec_items c.loop.self.row) (at (vec_items c.args.self.now.bounds.items) c.in_ok-p.p).term (limit (vec_items c.loop.self.row) (at (vec_items c.args.self.now.bounds.items) c.in_ok-p.p))) (vec_items c.args.self.now.bounds.items) (at (vec_items c.args.self.now.bounds.items) c.in_ok-p.p).term
  lower_queue =
      c.lower.ensures.queue
      ∙ ap (λ b. vec_items c.pick.new.self.queue ++ broken_on (set (vec_items c.pick.new.self.row) (at (vec_items b.items) c.in_ok-p.p).term (limit (vec_items c.pick.new.self.row) (at (vec_items b.items) c.in_ok-p.p))) (vec_items b.items) (at (vec_items b.items) c.in_ok-p.p).term) (same_bounds (goal.at.After-lower c).In_ok-p)
      ∙ ap (λ r. vec_items c.pick.new.self.queue ++ broken_on (set (vec_items r) (at (vec_items c.args.self.now.bounds.items) c.in_ok-p.p).term (limit (vec_items r) (at (vec_items c.args.self.now.bounds.items) c.in_ok-p.p))) (vec_items c.args.self.now.bounds.items) (at (vec_items c.args.self.now.bounds.items) c.in_ok-p.p).term) c.pick.ensures.row
      ∙ ap (λ z. z ++ broken_on (set (vec_items c.loop.self.row) (at (vec_items c.args.self.now.bounds.items) c.in_ok-p.p).term (limit (vec_items c.loop.self.row) (at (vec_items c.args.self.now.bounds.items) c.in_ok-p.p))) (vec_items c.args.self.now.bounds.items) (at (vec_items c.args.self.now.bounds.items) c.in_ok-p.p).term) (kept (goal.at.After-lower c).In_ok-p)

  turned : Turning (vec_items c.args.self.now.bounds.items) c.index.result.now.base c.args.before.now (vec_items c.lower.new.self.row) (vec_items c.lower.new.self.steps) (c.loop.counter + 1) ((length c.args.before.now + 1) - (c.loop.counter + 1))
  turned =
      let d = (goal.at.After-lower c).In_ok-p in
      let a = (goal.at.After-lower c).After-index in
      let l : ((length c.args.before.now + 1) - c.loop.counter) - 1 ≡ (length c.args.before.now + 1) - (c.loop.counter + 1) = omega arith in
      let t = turn_on (vec_items c.args.self.now.bounds.items) c.index.result.now.base c.args.before.now (vec_items c.loop.self.row) (vec_items c.loop.self.steps) c.loop.counter ((length c.args.before.now + 1) - c.loop.counter) c.loop.invariant.0
      c.in_ok-p.p (left_over d) (p_is d) (broken d) (named a) c.args.self.now.bounds.small (free (goal.at.After-lower c).Else-index-base) in
      simp (lower_row, lower_steps, sym l) t

pub loop-preserved : goal.loop-preserved
loop-preserved c =
    let d = (goal.at.loop-preserved c).After-lower in
    let a = (goal.at.loop-preserved c).After-index in
    let p = (goal.at.loop-preserved c).In_ok-p in
    let r = run_on (vec_items c.args.self.now.bounds.items) c.index.result.now.base c.args.before.now c.requires.some (named a) (base_is a) (before_fits a) (vec_items c.loop.self.row) (vec_items c.loop.self.steps) (vec_items c.loop.self.queue) c.loop.invariant.1
    c.in_ok-p.p (p_is p) (broken p) (free (goal.at.loop-preserved c).Else-index-base) in
    let n = ap length (lower_steps d) in
    (turned d, simp (lower_row d, lower_steps d, lower_queue d) r, omega (arith, n, length_push (vec_items c.loop.self.steps) c.in_ok-p.p, c.loop.invariant.2, c.loop.self.steps.ok.0, c.lower.new.self.steps.ok.0), c.lower.ensures.bounds ∙ same_bounds p)

pub returns-else-index-base : goal.returns-else-index-base
returns-else-index-base c =
    let d = (goal.at.returns-else-index-base c).After-lower in
    record {
      settles = opened (goal.at.returns-else-index-base c).After-index
          ∙ turn_end (vec_items c.args.self.now.bounds.items) c.index.result.now.base c.args.before.now (vec_items c.lower.new.self.row) (vec_items c.lower.new.self.steps) (c.loop.counter + 1) ((length c.args.before.now + 1) - (c.loop.counter + 1)) (turned d) (omega arith);
      within = tt;
      positions = (turned d).positions;
      bounds = c.lower.ensures.bounds ∙ same_bounds (goal.at.returns-else-index-base c).In_ok-p;
    }
