use Rattle.std.proofs.Common.{◌≡◌, ◌++◌, drop, Ok, vec_items}
use Rattle.book.specs.Lines.{and_then, shorts_of}
use Rattle.book.proofs.line.numbers.Given as goal

abbrev pub invariant-loop-word : goal.invariant-loop-word
invariant-loop-word l = and_then (shorts_of (drop l.word-index l.words)) (λ ns. Ok (vec_items l.numbers ++ ns)) ≡ shorts_of l.words
