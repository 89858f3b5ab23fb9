-- What callers see of a set of literals. Assumes nothing.
use Rattle.std.specs.Prelude.{ℕ, false, List, slice_index_or}
use Rattle.rules.specs.Clauses.{set_of}
use Rattle.clauses.specs.declared.set.LiteralSet.{LiteralSet}

-- the marked literals, rising
abbrev pub members : LiteralSet → List ℕ
members s = set_of (λ m. slice_index_or s.marks m false)
