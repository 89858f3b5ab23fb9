use Rattle.std.proofs.Common.{◌≡◌, ◌+◌, length}
use Rattle.book.specs.Pieces.{lines}
use Rattle.book.specs.Books.{contents_of, reads, meant}
use Rattle.book.proofs.reading.read.Given as goal

abbrev pub invariant-loop-i : goal.invariant-loop-i
invariant-loop-i l =
    ((goal.iterator-loop-i).can_next l.i-iterator × (goal.iterator-loop-i).is_finite l.i-iterator)
    × (reads l.purpose l.i-iterator.count l.stage (contents_of l.book) (lines l.i-iterator.iter.0.now) ≡ meant l.purpose l.text)
    × (l.i-iterator.count + length (lines l.i-iterator.iter.0.now) ≡ length (lines l.text))
