use Rattle.std.proofs.Common.{◌≡◌, ◌<◌, ◌∷◌, ◌++◌, length, filter, vec_items, sym, ap, ◌∙◌, arith, w64, to_z, of_z, pos, true}
use lib.Signed.{lt_z}
use Rattle.std.proofs.lemmas.Int.{ints}
use Rattle.std.proofs.lemmas.List.{length-append}
use Rattle.difference.specs.Bounds.{at}
use Rattle.difference.specs.Settling.{excess}
use Rattle.distance.specs.Index.{based}
use Rattle.distance.specs.Links.{left}
use Rattle.distance.specs.Queue.{breaks}
use Rattle.distance.proofs.Enqueuing.{turn_within, turn_room}
use Rattle.distance.proofs.queue.enqueue.Goals as goal
use Rattle.distance.proofs.queue.enqueue.Goals.{In-Some}

-- what came, this one and what is to come
whole : (c : In-Some) → c.loop-q.yielded ++ c.in-Some.q ∷ left c.next.new.self ≡ based (vec_items c.args.bounds.now.items) c.args.x (length (vec_items c.args.bounds.now.items))
whole c = ap (λ l. c.loop-q.yielded ++ l) (sym c.in-Some.ensures.steps) ∙ c.loop-q.invariant.2

pub bounds-items-q : goal.bounds-items-q
bounds-items-q c =
    let l : c.in-Some.q < length (vec_items c.args.bounds.now.items) = turn_within (vec_items c.args.bounds.now.items) c.args.x c.loop-q.yielded (left c.next.new.self) c.in-Some.q (whole (goal.at.bounds-items-q c).In-Some) in
    omega (arith, l, ap length c.deref.ensures.value)

pub push_reserved-requires : goal.push_reserved-requires
push_reserved-requires c =
    let bs = vec_items c.args.bounds.now.items in
    let v : to_z w64 (of_z w64 c.excess.result) ≡ c.excess.result = omega (arith, ints, c.excess.type_inv) in
    let t : breaks c.args.row.now bs c.in-Some.q ≡ true = ap (lt_z (pos 0)) (sym (v ∙ c.excess.ensures ∙ ap (λ bs. excess c.args.row.now (at bs c.in-Some.q)) c.deref.ensures.value)) ∙ c.if-excess-gt0.true in
    let r = turn_room bs c.args.x c.loop-q.yielded (left c.next.new.self) c.in-Some.q (whole (goal.at.push_reserved-requires c).In-Some) c.args.row.now t in
    let n = ap length c.loop-q.invariant.0 ∙ length-append (vec_items c.args.queue.now) (filter (breaks c.args.row.now bs) c.loop-q.yielded) in
    omega (arith, r, n, c.loop-q.queue.ok.0, c.loop-q.invariant.1, c.requires.room)
