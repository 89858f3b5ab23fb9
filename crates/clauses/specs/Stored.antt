-- What callers see of a stored clause. Assumes nothing.
use Rattle.std.specs.Prelude.{ℕ, List, take}
use Rattle.clauses.specs.declared.stored.StoredClause.{StoredClause}

abbrev pub clause_of : StoredClause → List ℕ
clause_of s = take s.len s.literals
