use Rattle.std.proofs.Common.{◌≡◌, ◌++◌, map, take, drop, string_bytes}
use Rattle.std.specs.List.{All}
use Rattle.book.specs.Canonical.{text_of, term_line, TermFits}
use Rattle.book.specs.Writing.{IsShort}
use Rattle.book.proofs.writing.write_terms.Given as goal

abbrev pub invariant-loop-term : goal.invariant-loop-term
invariant-loop-term l =
    (string_bytes l.out ++ text_of (map term_line (drop l.term-index l.terms)) ≡ string_bytes l.fn.out ++ text_of (map term_line l.terms))
    × All (λ t. IsShort t → TermFits t) (take l.term-index l.terms)
