use Rattle.std.proofs.Common.{◌≡◌, ℕ, ◌+◌, ◌<◌, ◌≤◌, length, get_or, pos, vec_items, List, ℤ, sym, ap, ◌∙◌, subst, arith, w64, to_z, of_z}
use lib.Signed.{lt_z}
use Rattle.std.proofs.lemmas.Int.{ints}
use Rattle.std.proofs.ByRecursion.{All-get_or}
use Rattle.std.proofs.lemmas.List.Filters.{FiltersInPlace-more_no, FiltersInPlace-more_set}
use Rattle.std.proofs.lemmas.List.{get_or_read, get_or-drop, take_all}
use Rattle.difference.specs.declared.bound.Bound.{Bound}
use Rattle.difference.specs.Bounds.{at}
use Rattle.difference.specs.Settling.{excess}
use Rattle.distance.proofs.Picking.{Best, best_then, best_else, best_picked}
use Rattle.distance.proofs.queue.sift.Goals as goal
use Rattle.distance.proofs.queue.sift.Goals.{After-index-q, After-excess-over, then-over-gt0, else-over-gt0}

i_in : (c : After-index-q) → c.loop-i.i < length (vec_items c.args.queue.now)
i_in c = omega (arith, c.loop-i-test.true, c.len-i-end.ensures, c.args.queue.now.ok.0)

-- the position is as it was in the queue at the start
q_is : (c : After-index-q) → c.index-q.result.now ≡ get_or (vec_items c.args.queue.now) c.loop-i.i 0
q_is c =
    let xs = vec_items c.args.queue.now in
    let ys = vec_items c.loop-i.queue in
    let i : ℕ = c.loop-i.i in
    let z : i + 0 ≡ i = omega arith in
    get_or_read ys i c.index-q.result.now (omega (arith, i_in c, c.loop-i.invariant.0.long)) c.index-q.ensures 0
    ∙ ap (λ k. get_or ys k 0) (sym z) ∙ sym (get_or-drop i ys 0 0) ∙ ap (λ l. get_or l 0 0) c.loop-i.invariant.0.rest ∙ get_or-drop i xs 0 0 ∙ ap (λ k. get_or xs k 0) z

q_in : (c : After-index-q) → c.index-q.result.now < length (vec_items c.args.bounds.now.items)
q_in c =
    let h : get_or (vec_items c.args.queue.now) c.loop-i.i 0 < length (vec_items c.args.bounds.now.items) =
    All-get_or (λ q. q < length (vec_items c.args.bounds.now.items)) (vec_items c.args.queue.now) c.loop-i.i 0 (i_in c) c.requires.positions in
    omega (arith, h, q_is c)

over_is : (c : After-excess-over) → to_z w64 (of_z w64 c.excess-over.result) ≡ excess c.args.row.now (at (vec_items c.args.bounds.now.items) c.index-q.result.now)
over_is c =
    let v : to_z w64 (of_z w64 c.excess-over.result) ≡ c.excess-over.result = omega (arith, ints, c.excess-over.type_inv) in
    v ∙ c.excess-over.ensures ∙ ap (λ bs. excess c.args.row.now (at bs c.index-q.result.now)) c.deref.ensures.value

pub loop-i-preserved : goal.loop-i-preserved
loop-i-preserved c =
    let row : List ℤ = c.args.row.now in
    let bs : List Bound = vec_items c.args.bounds.now.items in
    let xs : List ℕ = vec_items c.args.queue.now in
    let d = (goal.at.loop-i-preserved c).After-index-q in
    let o = over_is (goal.at.loop-i-preserved c).After-excess-over in
    let l = i_in d in
    let l' : c.loop-i.i < length (vec_items c.loop-i.queue) = omega (arith, l, c.loop-i.invariant.0.long) in
    elim c.if-over-gt0.branch [
      | then-over-gt0 w ↦ rw (w.queue-is, w.kept-is, w.best-is) (
        FiltersInPlace-more_set c.loop-i.invariant.0 l' (sym (ap (lt_z (pos 0)) o) ∙ w.if-over-gt0.true) c.index-q.ensures,
        best_then row bs xs c.loop-i.i c.index-q.result.now (to_z w64 (of_z w64 c.excess-over.result)) c.loop-i.best c.loop-i.invariant.1 l (q_is d) o w.if-over-gt0.true (q_in d) w.lead.result w.lead.ensures,
        c.loop-i.invariant.2,
      )
      | else-over-gt0 w ↦ rw (w.queue-is, w.kept-is, w.best-is) (
        FiltersInPlace-more_no c.loop-i.invariant.0 l' (sym (ap (lt_z (pos 0)) o) ∙ w.if-over-gt0.false) c.index-q.ensures,
        best_else row bs xs c.loop-i.i c.index-q.result.now (to_z w64 (of_z w64 c.excess-over.result)) c.loop-i.best c.loop-i.invariant.1 l (q_is d) o w.if-over-gt0.false,
        c.loop-i.invariant.2,
      )
    ]

pub returns-clause-picked : goal.returns-clause-picked
returns-clause-picked c =
    let xs : List ℕ = vec_items c.args.queue.now in
    let bs : List Bound = vec_items c.args.bounds.now.items in
    let l : length xs ≤ c.loop-i.i = omega (arith, c.loop-i-test.false, c.len-i-end.ensures, c.args.queue.now.ok.0) in
    best_picked c.args.row.now bs xs c.requires.covers c.loop-i.best (subst (λ z. Best c.args.row.now bs z c.loop-i.best) (take_all c.loop-i.i xs l) c.loop-i.invariant.1)
