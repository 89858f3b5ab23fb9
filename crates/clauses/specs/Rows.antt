-- A book in its row, and why a row is refused. Assumes nothing.
use Rattle.std.specs.Prelude.{◌≡◌, ℕ, zero, suc, ◌+◌, ◌≤◌, if◌then◌else◌, List, [], ◌∷◌, length, take, drop, nat_le, Ok, Err, Result}
use Rattle.std.specs.List.{All}
use Rattle.theory.specs.Literals.{Proper}
use Rattle.rules.specs.declared.refusal.Refusal.{Refusal}
use Rattle.rules.specs.declared.refusal.Refusal.TheVariants.{PastLimit, BadClause}
use Rattle.rules.specs.declared.refusal.Unopened.{Unopened}
use Rattle.rules.specs.declared.refusal.Unopened.TheVariants.{Refused, NoMemory}
use Rattle.rules.specs.Clauses.{Book, size, row_of}

-- the first clauses of a row, at most so many, up to a count that runs past the row's end
unfoldable pub first_clauses : ℕ → List ℕ → List (List ℕ)
first_clauses zero row = []
first_clauses (suc n) [] = []
first_clauses (suc n) (count ∷ rest) = if nat_le count (length rest) then take count rest ∷ first_clauses n (drop count rest) else []

-- each takes one number at least
unfoldable pub clauses_in : List ℕ → List (List ℕ)
clauses_in row = first_clauses (length row) row

-- where the counts of clauses stand, the first at a number
abbrev pub starts_from : ℕ → List (List ℕ) → List ℕ
starts_from at [] = []
starts_from at (c ∷ cs) = at ∷ starts_from (at + (length c + 1)) cs

-- a row is that of a book within the limits
pub record Formed (row : List ℕ) (book : List (List ℕ)) : Type 0 where
  pub of_book : row_of book ≡ row
  pub few_clauses : length book ≤ 512
  pub few_literals : size book ≤ 4096

-- why a row is refused, where there are `n` claims: it is that of no book within the limits; then, a clause is none
-- of theirs
pub data Barred (n : ℕ) (row : List ℕ) : Refusal → Type 0 where
  past_limit : ((book : List (List ℕ)) → Formed row book → ⊥) → Barred n row PastLimit
  bad_clause : (book : List (List ℕ)) → Formed row book → (All (Proper n) book → ⊥) → Barred n row BadClause

-- why a row gives no book: it is refused, or memory is short for the book of it
abbrev pub Unread : ℕ → List ℕ → Unopened → Type 0
Unread n row NoMemory = (book : List (List ℕ)) × Formed row book × Book n book
Unread n row (Refused r) = Barred n row r

-- what reading a row gives, by what a book then has: the row's clauses, or why there are none
abbrev pub Reads : {B : Type 0} → (B → List (List ℕ)) → ℕ → List ℕ → Result B Unopened → Type 0
Reads book_of n row (Ok b) = Formed row (book_of b) × Book n (book_of b)
Reads book_of n row (Err why) = Unread n row why
