-- The law of every run, by what its caller sees: the answers to the steps, and the place. Assumes nothing.
use Rattle.std.specs.Prelude.{◌≡◌, ℕ, ◌+◌, ◌<◌, ◌≤◌, List, [], ◌∷◌, length, take, drop, slice_get, slice_index, ℤ, Some, Result, Ok, Err, vec_items}
use Rattle.theory.specs.declared.theory.Theory.{Ghosts}
use Rattle.theory.specs.Meaning.{Meaning}
use Rattle.theory.specs.Members.{meaning}
use Rattle.rules.specs.declared.refusal.Refusal.{Refusal}
use Rattle.rules.specs.declared.step.Step.{Step}
use Rattle.rules.specs.declared.step.Step.TheVariants.{Fit, NoFit}
use Rattle.rules.specs.Histories.{most_steps, CanPropose, FitKeeping, NoFitKeeps}
use Rattle.rules.specs.States.{opened}
use Rattle.rules.specs.Runs.{answers}
use Rattle.clauses.specs.Rows.{Formed}
use Rattle.history.specs.declared.history.History.{History}
use Rattle.history.specs.declared.history.Returned.{Returned}
use Rattle.history.specs.declared.played.Played.{Played}
use Rattle.history.specs.Fits.{within}
use Rattle.history.specs.Replays.{judged_as}
use Rattle.history.specs.Seen.{Judged}

-- a step was proposed, and accepted
abbrev pub Accepted : List Step → List (Result ℕ Refusal) → Step → Type 0
Accepted steps told x =
    (i : ℕ) × (count : ℕ) × (slice_get steps i ≡ Some x) × (slice_get told i ≡ Some (Ok count))

-- no step Fit was accepted
abbrev pub Unfit : List Step → List (Result ℕ Refusal) → Type 0
Unfit steps told = (len : ℕ) → ¬ Accepted steps told (Fit len)

-- what the accepted steps were answered, in their order
abbrev pub counts : List (Result ℕ Refusal) → List ℕ
counts [] = []
counts (Ok count ∷ told) = count ∷ counts told
counts (Err r ∷ told) = counts told

-- a history answers a step so, whatever it is afterwards
abbrev pub Answers : {T : Type 0} {g : Ghosts T} → History T g → Step → Result ℕ Refusal → Type 0
Answers {T} {g} h x answer =
    (after : History T g) (told : Result ℕ Refusal) → Judged h after told x → told ≡ answer

-- of a book over a theory, what the steps were told, a place before and after them, and the history that is handed back
pub record Law {T : Type 0} {g : Ghosts T} (M : Meaning) (book : List (List ℕ)) (allowance : ℕ) (steps : List Step)
    (told : List (Result ℕ Refusal)) (before after : List ℤ) (h : History T g) : Type 0 where
  -- each step is answered as the rules judge it
  pub judged : told ≡ answers M (opened book allowance) (judged_as (length before) steps)
  -- each has its answer, and the accepted ones are 1, 2, 3 and so on
  pub each : length told ≡ length steps
  pub counted : (i : ℕ) → i < length (counts told) → slice_index (counts told) i ≡ i + 1
  -- no fit is accepted only if no fit keeps the book
  pub no_fit : Accepted steps told NoFit → NoFitKeeps M book
  -- fit is accepted only with a fit that keeps the book in the place's front, and nothing else writes
  pub fit : (len : ℕ) → Accepted steps told (Fit len)
      → FitKeeping M book (take M.terms after) × (drop M.terms after ≡ drop M.terms before)
  pub unfit : Unfit steps told → after ≡ before
  -- so many steps are accepted at most, and an allowance of so many is never used up
  pub allowed : length (counts told) ≤ allowance
  pub bounded : length (counts told) ≤ most_steps M.claims
  pub enough : most_steps M.claims ≤ allowance → length (counts told) < allowance
  -- until one of the two is accepted, some step that can be proposed is accepted next
  pub goes_on : Unfit steps told → ¬ Accepted steps told NoFit
      → length (counts told) < allowance → M.terms ≤ length before
      → (x : Step) × CanPropose (length before) x × Answers h (within (length before) x) (Ok (length (counts told) + 1))

-- whatever the theory, the row, the allowance, the steps and the place: a row that is taken is that of a book, and
-- the law
-- stands of it; a refused one leaves the theory and the place
abbrev pub KeepsLaw : {T : Type 0} (g : Ghosts T) → T → List ℕ → ℕ → List Step → List ℤ → List ℤ → Result (Played T g) (Returned T) → Type 0
KeepsLaw g t row allowance steps before after (Ok r) =
    ((book : List (List ℕ)) × Formed row book)
    × ((book : List (List ℕ)) → Formed row book → Law (meaning g t) book allowance steps (vec_items r.answers) before after r.history)
KeepsLaw g t row allowance steps before after (Err back) = (back.theory ≡ t) × (after ≡ before)
