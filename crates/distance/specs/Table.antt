-- What a table of bounds is about. Assumes nothing.
use Rattle.std.specs.Prelude.{ℕ, List, vec_items}
use Rattle.difference.specs.declared.bound.Bound.{Bound}
use Rattle.distance.specs.declared.table.Table.{Table}

-- how many terms there are
abbrev pub terms_of : Table → ℕ
terms_of t = t.work.bounds.terms

-- the bounds on the table, in order
abbrev pub bounds_on : Table → List Bound
bounds_on t = vec_items t.work.bounds.items
