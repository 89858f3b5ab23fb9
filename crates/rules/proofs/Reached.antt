-- What stands of a reached state, and that the state after a step is reached. Assumes nothing.
use mathlib.Core.Logic.{∥∥₁_elim, ∥∥₁_map}
use Rattle.std.proofs.Common.{◌≡◌, ℕ, ◌<◌, List, [], ◌∷◌, ◌++◌, Option, refl, ap, ◌∙◌, subst, arith}
use Rattle.std.proofs.Props.{props}
use Rattle.theory.specs.Literals.{Proper}
use Rattle.theory.specs.Meaning.{Meaning, Lawful}
use Rattle.rules.specs.declared.entry.Entry.{Entry}
use Rattle.rules.specs.declared.step.Step.{Step}
use Rattle.rules.specs.Clauses.{Book}
use Rattle.rules.specs.States.{State, opened, asserted}
use Rattle.rules.specs.Rules.{live_in}
use Rattle.rules.specs.Runs.{after, run}
use Rattle.rules.specs.Histories.{most_steps, Reached}
use Rattle.rules.proofs.Trails.{SoundTrail, proper_trail}
use Rattle.rules.proofs.Accepted.{run_keeps}
use Rattle.rules.proofs.Invariant.{Facts, Sound, accepted_sound, opened_sound}
use Rattle.rules.proofs.Weight.{Budget, accepted_paid, opened_paid, paid_bound}

run_push : (M : Meaning) (s : State) (xs : List Step) (x : Step) → run M s (xs ++ x ∷ []) ≡ after M (run M s xs) x
run_push M s [] x = refl
run_push M s (y ∷ ys) x = run_push M (after M s y) ys x

pub reached_after : (M : Meaning) (s : State) → Reached M s → (x : Step) → Reached M (after M s x)
reached_after M s r x =
    ∥∥₁_map r (λ h. (h.0, h.1, h.2 ++ x ∷ [], h.3, run_push M (opened h.0 h.1) h.2 x ∙ ap (λ (z : State). after M z x) h.4))

-- ---- what is known of a reached state is a proposition

sound_trail_prop : (M : Meaning) (clause_at : ℕ → Option (List ℕ)) (t : List Entry) → IsProp (SoundTrail M clause_at t)
sound_trail_prop M clause_at [] = hlevel props
sound_trail_prop M clause_at (e ∷ t) = hlevel (props, sound_trail_prop M clause_at t)

-- a reached state, and how many steps it took
pub record Known (M : Meaning) (s : State) : Type 0 where
  pub facts : Facts M s
  pub few : s.count < most_steps M.claims

known_prop : (M : Meaning) (s : State) → IsProp (Known M s)
known_prop M s = hlevel (props, sound_trail_prop M (live_in s) s.trail)

module _ (M : Meaning) (law : Lawful M) where
  run_sound : (book : List (List ℕ)) → Book M.claims book → (allowance : ℕ) (steps : List Step)
      → Sound M (run M (opened book allowance) steps) × Budget M.claims (run M (opened book allowance) steps)
  run_sound book b allowance steps =
      run_keeps M (λ s. Sound M s × Budget M.claims s)
      (λ s s' x p g a. let n = g.some_left in (accepted_sound M law s p.0 (omega (arith, p.0.facts.within)) a, accepted_paid M s p.0 p.1 g a)) steps
      (opened book allowance) (opened_sound M book allowance b, opened_paid M.claims book allowance)

  pub run_known : (book : List (List ℕ)) → Book M.claims book → (allowance : ℕ) (steps : List Step) → Known M (run M (opened book allowance) steps)
  run_known book b allowance steps =
      let p = run_sound book b allowance steps in
      record { facts = p.0.facts; few = paid_bound M (run M (opened book allowance) steps) p.0 p.1 }

  pub reached_known : (s : State) → Reached M s → Known M s
  reached_known s r = ∥∥₁_elim r (known_prop M s) (λ h. subst (Known M) h.4 (run_known h.0 h.3 h.1 h.2))

  pub reached_trail : (s : State) → Reached M s → Proper M.claims (asserted s.trail)
  reached_trail s r = proper_trail M (live_in s) s.trail (reached_known s r).facts.trail
