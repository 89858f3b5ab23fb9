-- What replaying gives. Assumes nothing.
use Rattle.std.specs.Prelude.{◌≡◌, ℕ, List, [], ◌∷◌, length, map, ℤ, Result, Ok, Err, vec_items}
use Rattle.theory.specs.declared.theory.Theory.{Ghosts}
use Rattle.theory.specs.Meaning.{Meaning}
use Rattle.theory.specs.Members.{meaning}
use Rattle.rules.specs.declared.step.Step.{Step}
use Rattle.rules.specs.Clauses.{Book}
use Rattle.rules.specs.States.{State, opened}
use Rattle.rules.specs.Runs.{after as state_after, run, answers}
use Rattle.clauses.specs.Rows.{Formed}
use Rattle.history.specs.declared.history.Returned.{Returned}
use Rattle.history.specs.declared.played.Played.{Played}
use Rattle.history.specs.Fits.{within, fit_over}
use Rattle.history.specs.Seen.{state}
use Rattle.history.specs.Opening.{Back}

-- what a place holds after some steps
abbrev pub place_after : Meaning → State → List Step → List ℤ → List ℤ
place_after M s [] place = place
place_after M s (x ∷ xs) place = place_after M (state_after M s x) xs (fit_over M s x place)

-- the steps as they are judged, where the place has `len` numbers
abbrev pub judged_as : ℕ → List Step → List Step
judged_as len steps = map (within len) steps

-- a run: the state it leads to, its answers, and what the place holds after it
pub record Ran (M : Meaning) {T : Type 0} {g : Ghosts T} (start : State) (steps : List Step) (before after : List ℤ) (r : Played T g) : Type 0 where
  pub state : state r.history ≡ run M start steps
  pub answers : vec_items r.answers ≡ answers M start steps
  pub place : after ≡ place_after M start steps before

-- the book in the row, and the run that the rules give from there
pub record Ends {T : Type 0} (g : Ghosts T) (t : T) (row : List ℕ) (allowance : ℕ) (steps : List Step) (before after : List ℤ) (r : Played T g) : Type 0 where
  pub shape : g.shape_of r.history.theory ≡ g.shape_of t
  pub formed : Formed row (state r.history).book
  pub book : Book (g.claims (g.shape_of t)) (state r.history).book
  pub ran : Ran (meaning g t) (opened (state r.history).book allowance) (judged_as (length before) steps) before after r

-- a refused opening leaves the place as well
abbrev pub Plays : {T : Type 0} (g : Ghosts T) → T → List ℕ → ℕ → List Step → List ℤ → List ℤ → Result (Played T g) (Returned T) → Type 0
Plays g t row allowance steps before after (Ok r) = Ends g t row allowance steps before after r
Plays g t row allowance steps before after (Err back) = Back g t row back × (after ≡ before)
