use Rattle.std.proofs.Common.{◌≡◌, ◌++◌, map, take, drop, string_bytes}
use Rattle.std.specs.List.{All}
use Rattle.book.specs.Canonical.{text_of, claim_line, bound_line, ClaimFits, BoundFits}
use Rattle.book.proofs.writing.write_claims.Given as goal

abbrev pub invariant-loop-claim : goal.invariant-loop-claim
invariant-loop-claim l =
    (string_bytes l.out ++ text_of (map claim_line (drop l.claim-index l.claim-items)) ≡ string_bytes l.fn.out ++ text_of (map claim_line l.claim-items))
    × All ClaimFits (take l.claim-index l.claim-items)

abbrev pub invariant-loop-bound : goal.invariant-loop-bound
invariant-loop-bound l =
    (string_bytes l.out ++ text_of (map bound_line (drop l.bound-index l.bound-items)) ≡ string_bytes l.fn.out ++ text_of (map bound_line l.bound-items))
    × All BoundFits (take l.bound-index l.bound-items)
