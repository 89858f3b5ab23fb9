use Rattle.std.proofs.Common.{◌≡◌, take, vec_items, vec_capacity}
use Rattle.std.proofs.lemmas.List.Filters.{FiltersInPlace}
use Rattle.distance.specs.Queue.{breaks}
use Rattle.distance.proofs.Picking.{Best}
use Rattle.distance.proofs.queue.sift.Given as goal

-- what was looked at is kept if it is broken, and the worst of it is known
abbrev pub invariant-loop-i : goal.invariant-loop-i
invariant-loop-i l =
    FiltersInPlace (breaks l.row (vec_items l.bounds.items)) (vec_items l.initial.queue) (vec_items l.queue) l.kept l.i
    × Best l.row (vec_items l.bounds.items) (take l.i (vec_items l.initial.queue)) l.best
    × (vec_capacity l.queue ≡ vec_capacity l.initial.queue)
