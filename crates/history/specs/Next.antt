-- What a history is asked before a step. Assumes nothing.
use Rattle.std.specs.Prelude.{◌≡◌, ℕ, ◌*◌, ◌<◌, List, Option}
use Rattle.theory.specs.declared.theory.Theory.{Ghosts}
use Rattle.theory.specs.Meaning.{Meaning}
use Rattle.rules.specs.States.{State}
use Rattle.rules.specs.Rules.{live_in, theory_blames}
use Rattle.rules.specs.Moves.{ClaimOn, Impossible, denying}
use Rattle.table.specs.Explained.{explained_at}
use Rattle.history.specs.declared.history.History.{History}
use Rattle.history.specs.Seen.{means, shape, state}

-- a question leaves the state, and the theory's shape
pub record Same {T : Type 0} {g : Ghosts T} (h h' : History T g) : Type 0 where
  pub shape : shape h' ≡ shape h
  pub state : state h' ≡ state h

-- a literal follows by the theory: its claim is off the trail, and the trail with its complement is impossible
pub record Implied (M : Meaning) (s : State) (l : ℕ) : Type 0 where
  pub of_claims : l < 2 * M.claims
  pub off_trail : ¬ ClaimOn s.trail l
  pub follows : Impossible M (denying s.trail l)

-- the clause by which the entry at a position followed: its reason, or what the theory blames
abbrev pub explanation : {T : Type 0} {g : Ghosts T} → History T g → ℕ → Option (List ℕ)
explanation h p = explained_at (theory_blames (means h)) (live_in (state h)) (state h).trail p
