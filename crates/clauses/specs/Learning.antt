-- What callers see of a book and of learned clauses. Assumes nothing.
use Rattle.std.specs.Prelude.{ℕ, List, Option, map, vec_items}
use Rattle.std.specs.Option.{option_map}
use Rattle.clauses.specs.declared.book.Book.{Book}
use Rattle.clauses.specs.declared.learned.Learned.{Learned}
use Rattle.clauses.specs.Rows.{clauses_in}
use Rattle.clauses.specs.Stored.{clause_of}

abbrev pub book_of : Book → List (List ℕ)
book_of b = clauses_in (vec_items b.row)

-- the 128 places
abbrev pub learned_of : Learned → List (Option (List ℕ))
learned_of l = map (option_map clause_of) (vec_items l.places)
