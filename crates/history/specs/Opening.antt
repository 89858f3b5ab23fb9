-- What opening gives. Assumes nothing.
use Rattle.std.specs.Prelude.{◌≡◌, ℕ, List, Result, Ok, Err}
use Rattle.theory.specs.declared.theory.Theory.{Ghosts}
use Rattle.rules.specs.Clauses.{Book}
use Rattle.rules.specs.States.{opened}
use Rattle.clauses.specs.Rows.{Formed, Unread}
use Rattle.history.specs.declared.history.History.{History}
use Rattle.history.specs.declared.history.Returned.{Returned}
use Rattle.history.specs.Seen.{state}

-- a new history over a theory, of the book in a row
pub record New {T : Type 0} (g : Ghosts T) (t : T) (row : List ℕ) (allowance : ℕ) (h : History T g) : Type 0 where
  pub shape : g.shape_of h.theory ≡ g.shape_of t
  pub formed : Formed row (state h).book
  pub book : Book (g.claims (g.shape_of t)) (state h).book
  pub state : state h ≡ opened (state h).book allowance

-- the theory comes back as it was, with why the row was refused
pub record Back {T : Type 0} (g : Ghosts T) (t : T) (row : List ℕ) (back : Returned T) : Type 0 where
  pub theory : back.theory ≡ t
  pub why : Unread (g.claims (g.shape_of t)) row back.why

abbrev pub Opened : {T : Type 0} (g : Ghosts T) → T → List ℕ → ℕ → Result (History T g) (Returned T) → Type 0
Opened g t row allowance (Ok h) = New g t row allowance h
Opened g t row allowance (Err back) = Back g t row back
