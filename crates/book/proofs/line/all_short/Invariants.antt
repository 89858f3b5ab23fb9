use Rattle.std.proofs.Common.{◌≡◌, drop, Ok}
use Rattle.book.specs.Lines.{and_then, shorts_of}
use Rattle.book.proofs.line.all_short.Given as goal

abbrev pub invariant-loop-word : goal.invariant-loop-word
invariant-loop-word l = and_then (shorts_of (drop l.word-index l.words)) (λ _. Ok (tt {0})) ≡ and_then (shorts_of l.words) (λ _. Ok (tt {0}))
