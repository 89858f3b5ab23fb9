-- What callers see of a table. Assumes nothing.
use Rattle.std.specs.Prelude.{ℕ, List, [], Option, map, length, vec_items, slice_get}
use Rattle.std.specs.Option.{option_map}
use Rattle.rules.specs.declared.entry.Entry.{Entry}
use Rattle.rules.specs.declared.entry.Reason.{Reason}
use Rattle.rules.specs.States.{State}
use Rattle.rules.specs.Rules.{explained}
use Rattle.clauses.specs.Sets.{members}
use Rattle.clauses.specs.Stored.{clause_of}
use Rattle.clauses.specs.Learning.{book_of, learned_of}
use Rattle.trail.specs.Trails.{trail_of}
use Rattle.trail.specs.Trails as trail
use Rattle.table.specs.declared.table.Table.{Table}

-- how many claims there are
abbrev pub claims_of : Table → ℕ
claims_of t = trail.claims_of t.trail

-- the state, as the rules have it
abbrev pub state_of : Table → State
state_of t = record {
  book = book_of t.book;
  learned = learned_of t.learned;
  trail = trail_of t.trail;
  conflict = option_map members t.conflict;
  verdict = t.verdict;
  count = t.count;
  allowance = t.allowance;
}

-- the clauses that the theory blamed, each at the position of the entry that it explains
abbrev pub blames_of : Table → List (List ℕ)
blames_of t = map clause_of (vec_items t.blames)

-- what is stored for an entry that comes after a trail
abbrev pub stored : List (List ℕ) → ℕ → List Entry → Option (List ℕ)
stored blames l t = slice_get blames (length t)

abbrev pub stored_in : Table → ℕ → List Entry → Option (List ℕ)
stored_in t = stored (blames_of t)

-- the clause by which an entry followed, by its reason and its position
abbrev pub by_reason : (ℕ → Option (List ℕ)) → List (List ℕ) → Reason → ℕ → Option (List ℕ)
by_reason clause_at blames r p = explained (λ l t. slice_get blames p) clause_at r 0 []
