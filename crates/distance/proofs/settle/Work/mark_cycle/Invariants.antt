use Rattle.std.proofs.Common.{◌≡◌, ℕ, ◌≤◌, false, ◌||◌, length, get_or, take, vec_items}
use Rattle.theory.specs.Literals.{has}
use Rattle.difference.specs.Settling.{back, around}
use Rattle.distance.proofs.settle.Work.mark_cycle.Given as goal

-- the marks so far, and those to come on the way back, are those of the cycle
abbrev pub invariant-loop-q : goal.invariant-loop-q
invariant-loop-q l =
    ((q : ℕ) → (get_or l.marks q false || has (back (vec_items l.self.bounds.items) (vec_items l.self.steps) (length l.q-iterator.iter.rest.now) l.x) q) ≡ has (around (vec_items l.self.bounds.items) (vec_items l.self.steps) l.p) q)
    × (l.q-iterator.iter.rest.now ≡ take (length l.q-iterator.iter.rest.now) (vec_items l.self.steps))
    × (length l.q-iterator.iter.rest.now ≤ length (vec_items l.self.steps))
