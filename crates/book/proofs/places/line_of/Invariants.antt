use Rattle.std.proofs.Common.{◌≡◌, ◌+◌, length, slice_get}
use Rattle.book.specs.Pieces.{lines}
use Rattle.book.specs.Places.{places}
use Rattle.book.proofs.places.line_of.Given as goal

abbrev pub invariant-loop-n : goal.invariant-loop-n
invariant-loop-n l =
    ((goal.iterator-loop-n).can_next l.n-iterator × (goal.iterator-loop-n).is_finite l.n-iterator)
    × (slice_get (places l.kind 1 (lines l.text)) l.i ≡ slice_get (places l.kind (l.n-iterator.count + 1) (lines l.n-iterator.iter.0.now)) l.left)
    × (l.n-iterator.count + length (lines l.n-iterator.iter.0.now) ≡ length (lines l.text))
