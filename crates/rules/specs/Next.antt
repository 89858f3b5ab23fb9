-- Steps that are to be had, each by what is to be seen of a state without its theory, where there are `n` claims.
-- Assumes nothing.
use Rattle.std.specs.Prelude.{◌≡◌, ℕ, ◌+◌, ◌*◌, ◌<◌, ◌≢◌, true, false, List, Some, None}
use Rattle.std.specs.List.{list_any}
use Rattle.theory.specs.Literals.{names}
use Rattle.theory.specs.Meaning.{Meaning}
use Rattle.rules.specs.declared.entry.Reason.TheVariants.{Decided}
use Rattle.rules.specs.declared.entry.Entry.{Entry}
use Rattle.rules.specs.declared.step.Step.{Step}
use Rattle.rules.specs.declared.step.Step.TheVariants as step
use Rattle.rules.specs.States.{State, literals, level}
use Rattle.rules.specs.Moves.{Going, Moves}
use Rattle.rules.specs.Rules.{true_on, latest, is_learned, is_reason, live_in, full}
use Rattle.rules.specs.Histories.{CanPropose}

pub data Ready (n : ℕ) (s : State) : Step → Type 0 where
  -- no conflict stands: some claim is off the trail, or none is, and some clause of the book has no true literal
  decide : {l : ℕ} → s.conflict ≡ None → l < 2 * n → names (literals s.trail) l ≡ false → Ready n s (step.Decide l)
  conflict : {c : ℕ} {R : List ℕ} → s.conflict ≡ None → full n s.trail ≡ true → c < 512 → live_in s c ≡ Some R → list_any (true_on s.trail) R ≡ false → Ready n s (step.Conflict c)
  -- a conflict stands: it has no latest literal, or that one followed from others, or it was decided
  no_fit : {C : List ℕ} → s.conflict ≡ Some C → latest C s.trail ≡ None → Ready n s step.NoFit
  resolve : {C : List ℕ} {e : Entry} {before : List Entry} → s.conflict ≡ Some C → latest C s.trail ≡ Some (e, before) → e.reason ≢ Decided → Ready n s step.Resolve
  jump : {C : List ℕ} {e : Entry} {before : List Entry} {c : ℕ} → s.conflict ≡ Some C → latest C s.trail ≡ Some (e, before) → e.reason ≡ Decided
      → is_learned c ≡ true → live_in s c ≡ None → Ready n s (step.Jump (level before) c)
  -- some learned clause is no reason
  forget : {c : ℕ} {R : List ℕ} → live_in s c ≡ Some R → is_learned c ≡ true → is_reason c s.trail ≡ false → Ready n s (step.Forget c)

-- what there is to see where no step is: it is for the theory to tell, or every learned clause is a reason
pub data Unready (n : ℕ) (s : State) : Type 0 where
  settled : s.conflict ≡ None → full n s.trail ≡ true → ((c : ℕ) (R : List ℕ) → c < 512 → live_in s c ≡ Some R → list_any (true_on s.trail) R ≡ true) → Unready n s
  crowded : {C : List ℕ} {e : Entry} {before : List Entry} → s.conflict ≡ Some C → latest C s.trail ≡ Some (e, before) → e.reason ≡ Decided
      → ((i : ℕ) → i < 128 → is_reason (512 + i) s.trail ≡ true) → Unready n s

-- a step that is to be had over a theory: a caller can propose it, and a rule accepts it if no verdict stands and
-- some allowance is left
pub record ToBeHad (M : Meaning) (s : State) (x : Step) : Type 0 where
  pub proposable : CanPropose M.terms x
  pub accepted : Going s → (s' : State) × Moves M s x s'
