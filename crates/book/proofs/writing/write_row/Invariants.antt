use Rattle.std.proofs.Common.{◌≡◌, ◌++◌, map, drop, string_bytes}
use Rattle.book.specs.Canonical.{text_of, clause_line}
use Rattle.book.proofs.writing.write_row.Given as goal

abbrev pub invariant-loop-clause : goal.invariant-loop-clause
invariant-loop-clause l =
    string_bytes l.out ++ text_of (map clause_line (map (λ c. c.now) (drop l.clause-index l.clause-items))) ≡ string_bytes l.fn.out ++ text_of (map clause_line (map (λ c. c.now) l.clause-items))
