-- What a new history comes to by some steps, as a caller reads it. Assumes nothing.
use Rattle.std.specs.Prelude.{◌≡◌, ℕ, List, map, Option, Result, Ok, Err}
use Rattle.theory.specs.Meaning.{Meaning}
use Rattle.rules.specs.declared.step.Step.{Step}
use Rattle.rules.specs.declared.step.Verdict.{Verdict}
use Rattle.rules.specs.declared.refusal.Refusal.{Refusal}
use Rattle.rules.specs.Refusals.{number}
use Rattle.rules.specs.States.{opened}
use Rattle.rules.specs.Runs.{run, answers}

-- what a step returned: a count, or the number of its refusal
abbrev pub reply : Result ℕ Refusal → Result ℕ ℕ
reply (Ok count) = Ok count
reply (Err r) = Err (number r)

-- of a book with an allowance of seven steps: what the steps return, and the verdict and the count after them
pub record Replay (M : Meaning) (book : List (List ℕ)) (steps : List Step)
    (replies : List (Result ℕ ℕ)) (verdict : Option Verdict) (count : ℕ) : Type 0 where
  pub replies_are : map reply (answers M (opened book 7) steps) ≡ replies
  pub verdict_is : (run M (opened book 7) steps).verdict ≡ verdict
  pub count_is : (run M (opened book 7) steps).count ≡ count
