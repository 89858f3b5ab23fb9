use Rattle.std.proofs.Common.{◌≡◌, ◌+◌, ◌-◌, length, vec_items, vec_len}
use Rattle.distance.proofs.Turning.{Turning}
use Rattle.distance.proofs.Running.{Running}
use Rattle.distance.proofs.settle.Work.settle.Given as goal

abbrev pub invariant-loop : goal.invariant-loop
invariant-loop l =
    Turning (vec_items l.initial.self.bounds.items) l.base l.before (vec_items l.self.row) (vec_items l.self.steps) l.counter ((length l.before + 1) - l.counter)
    × Running (vec_items l.initial.self.bounds.items) l.base l.before (vec_items l.self.row) (vec_items l.self.steps) (vec_items l.self.queue)
    × (vec_len l.self.steps ≡ l.counter)
    × (l.self.bounds ≡ l.initial.self.bounds)
