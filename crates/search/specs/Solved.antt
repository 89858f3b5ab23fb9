-- What a search gives its caller, with the theory that comes back. Assumes nothing.
use Rattle.std.specs.Prelude.{◌≡◌, ◌⊎◌, ℕ, List, ℤ, Option, Result, Ok, Err}
use Rattle.theory.specs.declared.theory.Theory.{Ghosts}
use Rattle.theory.specs.Members.{meaning}
use Rattle.rules.specs.declared.step.Step.{Step}
use Rattle.rules.specs.declared.refusal.Unopened.{Unopened}
use Rattle.rules.specs.declared.refusal.Unopened.TheVariants.{Refused, NoMemory}
use Rattle.history.specs.declared.history.Returned.{Returned}
use Rattle.search.specs.declared.task.Searched.{Searched}
use Rattle.rules.specs.declared.refusal.Refusal.TheVariants.{ShortFitPlace}
use Rattle.rules.specs.Clauses.{Book}
use Rattle.clauses.specs.Rows.{Formed, Unread}
use Rattle.search.specs.Searches.{Found, NotSearched}

-- where the place is too short: why opening would be refused, or, where it would not, that
abbrev pub Short : ℕ → List ℕ → Unopened → Type 0
Short n row why = Unread n row why ⊎ ((why ≡ Refused ShortFitPlace) × ((book : List (List ℕ)) × Formed row book × Book n book))

-- the theory, of its shape, with what was found
pub record Gives {T : Type 0} (g : Ghosts T) (t : T) (row : List ℕ) (allowance : ℕ) (place after : List ℤ) (seen seen' : Option (List Step)) (r : Searched T) : Type 0 where
  pub shape : g.shape_of r.theory ≡ g.shape_of t
  pub found : Found (meaning g t) row allowance place after seen seen' r.outcome r.steps

-- a refused search leaves the theory as it was, its list included; one without memory leaves its shape
abbrev pub Left : {T : Type 0} (g : Ghosts T) → T → T → Unopened → Type 0
Left g t u (Refused r) = u ≡ t
Left g t u NoMemory = g.shape_of u ≡ g.shape_of t

-- why nothing was found, with the theory; the place is as it was
pub record HandsBack {T : Type 0} (g : Ghosts T) (t : T) (row : List ℕ) (place after : List ℤ) (back : Returned T) : Type 0 where
  pub why : NotSearched (meaning g t) row place back.why
  pub theory : Left g t back.theory back.why
  pub place_is : after ≡ place

abbrev pub Solved : {T : Type 0} (g : Ghosts T) → T → List ℕ → ℕ → List ℤ → List ℤ → Option (List Step) → Option (List Step) → Result (Searched T) (Returned T) → Type 0
Solved g t row allowance place after seen seen' (Ok r) = Gives g t row allowance place after seen seen' r
Solved g t row allowance place after seen seen' (Err back) = HandsBack g t row place after back
