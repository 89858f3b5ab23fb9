-- What ties a history's table to its theory. Assumes nothing.
use Rattle.std.specs.Prelude.{◌≡◌, ℕ, Bool, true, List, [], ◌∷◌, ◌++◌, drop}
use Rattle.theory.specs.Literals.{complement}
use Rattle.theory.specs.Meaning.{Meaning, possible, impossible}
use Rattle.rules.specs.declared.entry.Entry.{Entry}
use Rattle.rules.specs.declared.entry.Reason.TheVariants.{Theory}
use Rattle.rules.specs.States.{asserted}
use Rattle.rules.specs.Rules.{theory_blames}
use Rattle.rules.specs.Histories.{Reached}
use Rattle.table.specs.declared.table.Table.{Table}
use Rattle.table.specs.Tables.{state_of, claims_of, blames_of, stored}

-- for each entry of the trail that followed by the theory from those before it, what the theory blames is stored
abbrev pub Explains : Meaning → List (List ℕ) → List Entry → Type 0
Explains M blames t =
    (k : ℕ) (e : Entry) (before : List Entry) → drop k t ≡ e ∷ before → e.reason ≡ Theory
    → theory_blames M e.literal before ≡ stored blames e.literal before

-- what a theory says of its list with the complement of a literal: impossible, with this core
abbrev pub Denies : Meaning → List ℕ → ℕ → List ℕ → Type 0
Denies M list l core = M.answer (list ++ complement l ∷ []) ≡ impossible core

-- of a table, a theory's meaning and the theory's list; `sure` says that the trail as it stands was found possible
pub record Linked (M : Meaning) (list : List ℕ) (t : Table) (sure : Bool) : Type 0 where
  pub claims : M.claims ≡ claims_of t
  -- the theory's list is the trail
  pub same : list ≡ asserted (state_of t).trail
  -- some steps lead to this state from a book that was opened
  pub reached : Reached M (state_of t)
  pub explains : Explains M (blames_of t) (state_of t).trail
  pub found : sure ≡ true → M.answer (asserted (state_of t).trail) ≡ possible
