-- The state of a history. A clause, and a conflict, is a set of literals, kept as a list; the trail has its latest
-- entry
-- first, so that what came before an entry is the list's rest. Assumes nothing.
use Rattle.std.specs.Prelude.{ℕ, ◌+◌, List, [], ◌∷◌, ◌++◌, replicate, Option, None, Result, Ok, Err}
use Rattle.rules.specs.declared.entry.Reason.{Reason}
use Rattle.rules.specs.declared.entry.Reason.TheVariants.{Decided, Clause, Theory}
use Rattle.rules.specs.declared.entry.Entry.{Entry}
use Rattle.rules.specs.declared.step.Verdict.{Verdict}
use Rattle.rules.specs.declared.refusal.Refusal.{Refusal}

pub record State : Type 0 where
  pub book : List (List ℕ)
  -- 128 places: the clauses with the numbers 512 to 639
  pub learned : List (Option (List ℕ))
  pub trail : List Entry
  pub conflict : Option (List ℕ)
  pub verdict : Option Verdict
  pub count : ℕ
  pub allowance : ℕ

-- a new history
abbrev pub opened : List (List ℕ) → ℕ → State
opened book allowance =
    record { book = book; learned = replicate 128 None; trail = []; conflict = None; verdict = None; count = 0; allowance = allowance }

-- the literals on a trail, the latest first
abbrev pub literals : List Entry → List ℕ
literals [] = []
literals (e ∷ t) = e.literal ∷ literals t

-- and the oldest first, as the theory has them
abbrev pub asserted : List Entry → List ℕ
asserted [] = []
asserted (e ∷ t) = asserted t ++ e.literal ∷ []

abbrev pub decisions : Reason → ℕ
decisions Decided = 1
decisions (Clause c) = 0
decisions Theory = 0

-- the level of the latest entry: the number of decided ones up to and including it
abbrev pub level : List Entry → ℕ
level [] = 0
level (e ∷ t) = decisions e.reason + level t

-- the state after an accepted step: each adds one to the count
abbrev pub next : State → List (Option (List ℕ)) → List Entry → Option (List ℕ) → Option Verdict → State
next s learned trail conflict verdict =
    record { book = s.book; learned = learned; trail = trail; conflict = conflict; verdict = verdict; count = s.count + 1; allowance = s.allowance }

-- what a step comes to: the state after it, or why it is refused
abbrev pub Outcome : Type 0
Outcome = Result State Refusal

-- what the caller is told: the count, or why the step is refused
abbrev pub says : Outcome → Result ℕ Refusal
says (Ok s) = Ok s.count
says (Err r) = Err r

-- a refused step leaves the state
abbrev pub leaves : State → Outcome → State
leaves s (Ok s') = s'
leaves s (Err r) = s
