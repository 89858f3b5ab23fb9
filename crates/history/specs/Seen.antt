-- What callers see of a history, and what a step does to one. Assumes nothing.
use Rattle.std.specs.Prelude.{◌≡◌, ℕ, List, ℤ, Result}
use Rattle.theory.specs.declared.theory.Theory.{Ghosts}
use Rattle.theory.specs.Meaning.{Meaning}
use Rattle.theory.specs.Members.{meaning}
use Rattle.rules.specs.declared.refusal.Refusal.{Refusal}
use Rattle.rules.specs.declared.step.Step.{Step}
use Rattle.rules.specs.States.{State, says, leaves}
use Rattle.rules.specs.Rules.{judge}
use Rattle.table.specs.Tables.{state_of}
use Rattle.history.specs.declared.history.History.{History}
use Rattle.history.specs.Fits.{fit_over}

-- what the theory means; `g` is what the bound `T : Theory` brings
abbrev pub means : {T : Type 0} {g : Ghosts T} → History T g → Meaning
means {g = g} h = meaning g h.theory

-- the part of its theory that fixes what it means
abbrev pub shape : {T : Type 0} {g : Ghosts T} → History T g → g.Shape
shape {g = g} h = g.shape_of h.theory

-- the state, as the rules have it
abbrev pub state : {T : Type 0} {g : Ghosts T} → History T g → State
state h = state_of h.table

-- a history before and after a step, and what the caller is told: what the rules judge of the state and the step
pub record Judged {T : Type 0} {g : Ghosts T} (h h' : History T g) (told : Result ℕ Refusal) (x : Step) : Type 0 where
  pub shape : g.shape_of h'.theory ≡ g.shape_of h.theory
  pub says : told ≡ says (judge (means h) (state h) x)
  pub state : state h' ≡ leaves (state h) (judge (means h) (state h) x)

-- what a place holds after a step
abbrev pub left_by : {T : Type 0} {g : Ghosts T} → History T g → Step → List ℤ → List ℤ
left_by h x place = fit_over (means h) (state h) x place
