use Rattle.std.proofs.Common.{◌≡◌, ◌++◌, length, filter, vec_items, vec_capacity}
use Rattle.distance.specs.Index.{based}
use Rattle.distance.specs.Links.{left}
use Rattle.distance.specs.Queue.{breaks}
use Rattle.distance.proofs.queue.enqueue.Given as goal

-- of those so far the broken ones are in the queue, and the others are still to come
abbrev pub invariant-loop-q : goal.invariant-loop-q
invariant-loop-q l =
    (vec_items l.queue ≡ vec_items l.initial.queue ++ filter (breaks l.row (vec_items l.bounds.items)) l.yielded)
    × (vec_capacity l.queue ≡ vec_capacity l.initial.queue)
    × (l.yielded ++ left l.q-iterator ≡ based (vec_items l.bounds.items) l.x (length (vec_items l.bounds.items)))
