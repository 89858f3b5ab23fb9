use Rattle.std.proofs.Common.{◌≡◌, ◌+◌, ◌≤◌, ◌++◌, length, vec_items}
use Rattle.rules.specs.Clauses.{size}
use Rattle.clauses.specs.Rows.{clauses_in, starts_from}
use Rattle.clauses.proofs.book.list_starts.Given as goal

abbrev pub invariant-loop-clause : goal.invariant-loop-clause
invariant-loop-clause l =
    ((goal.iterator-loop-clause).can_next l.clause-iterator × (goal.iterator-loop-clause).is_finite l.clause-iterator)
    × (vec_items l.starts ++ starts_from l.at (clauses_in l.clause-iterator.0.now) ≡ starts_from 0 (clauses_in l.row))
    × (l.at + (length (clauses_in l.clause-iterator.0.now) + size (clauses_in l.clause-iterator.0.now)) ≤ length l.row)
