use Rattle.std.proofs.Common.{◌≡◌, List, ℕ, ◌++◌, map, length}
use Rattle.rules.specs.Clauses.{row_of}
use Rattle.book.proofs.writing.clauses.Given as goal

abbrev pub invariant-loop-count : goal.invariant-loop-count
invariant-loop-count l =
    (row_of (map (λ c. c.now) l.clauses.items) ++ l.rest ≡ l.row) × ((cs : List (List ℕ)) → row_of cs ≡ l.row → (more : List (List ℕ)) × (row_of more ≡ l.rest))

abbrev pub decreases-loop-count : goal.decreases-loop-count
decreases-loop-count l = length l.rest
