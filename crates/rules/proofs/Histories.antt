-- What stands of every history, put together. Assumes nothing.
use Rattle.std.proofs.Common.{◌≡◌, ◌≢◌, ℕ, ◌+◌, List, [], ◌∷◌, is_ok, Option, Some, None, Ok, Err, IfSome, refl, ◌∙◌, subst, ⊎_elim, arith}
use Rattle.std.specs.Prelude.{if◌then◌else◌}
use Rattle.theory.specs.Meaning.{Meaning, Lawful}
use Rattle.rules.specs.declared.entry.Reason.TheVariants.{Decided}
use Rattle.rules.specs.declared.entry.Entry.{Entry}
use Rattle.rules.specs.declared.step.Step.{Step}
use Rattle.rules.specs.declared.step.Verdict.{Verdict}
use Rattle.rules.specs.declared.step.Verdict.TheVariants as verdict
use Rattle.rules.specs.Kinds.{verdict_number}
use Rattle.rules.specs.States.{State, opened, Outcome, leaves}
use Rattle.rules.specs.Moves.{At}
use Rattle.rules.specs.Rules.{live_in, judge}
use Rattle.rules.specs.Runs.{after, run}
use Rattle.rules.specs.Histories.{VerdictSays, tally, ConflictStands, Follows, Stands, HistoriesStand, ReachedStand}
use Rattle.rules.proofs.Lists.{contains, contained}
use Rattle.rules.proofs.Trails.{Grounded, SoundEntry, SoundTrail, ground, proper_trail}
use Rattle.rules.proofs.Accepted.{Leads, Going, Accepted, judge_accepts, run_keeps, accepted_next}
use Rattle.rules.proofs.Invariant.{Facts, written_kept}
use Rattle.rules.proofs.Words.{all_but, at_none, at_cases, explained_from}
use Rattle.rules.proofs.Reached.{Known, run_known, reached_known}
use Rattle.rules.proofs.Progress.{progress}

module _ (M : Meaning) where
  -- an accepted step adds one to the count
  leaves_counted : (s : State) (x : Step) (o : Outcome) → Leads (λ s'. Going s × Accepted M s x s') o → (leaves s o).count ≡ s.count + (if is_ok o then 1 else 0)
  leaves_counted s x (Ok s') a = (accepted_next a.to.1).counted
  leaves_counted s x (Err r) a = omega arith

  run_counted : (xs : List Step) (s : State) → (run M s xs).count ≡ s.count + tally M s xs
  run_counted [] s = omega arith
  run_counted (x ∷ xs) s = omega (arith, run_counted xs (after M s x), leaves_counted s x (judge M s x) (judge_accepts M s x))

  -- and leaves the book and the allowance
  run_same : (book : List (List ℕ)) (allowance : ℕ) (xs : List Step)
      → ((run M (opened book allowance) xs).book ≡ book) × ((run M (opened book allowance) xs).allowance ≡ allowance)
  run_same book allowance xs =
      run_keeps M (λ s. (s.book ≡ book) × (s.allowance ≡ allowance)) (λ s s' x p g a. let n = accepted_next a in (n.book ∙ p.0, n.allowance ∙ p.1)) xs
      (opened book allowance) (refl, refl)

  sound_at : (clause_at : ℕ → Option (List ℕ)) (t : List Entry) → SoundTrail M clause_at t → (e : Entry) (before : List Entry) → At t e before → SoundEntry M clause_at e before
  sound_at clause_at [] k e b a = absurd (at_none e b a)
  sound_at clause_at (d ∷ t) k e b a =
      ⊎_elim (λ (q : (d ≡ e) × (t ≡ b)). subst (λ (z : Entry). SoundEntry M clause_at z b) q.0 (subst (λ (z : List Entry). SoundEntry M clause_at d z) q.1 k.0))
      (λ x. sound_at clause_at t k.1 e b x) (at_cases d t e b a)

module _ (M : Meaning) (law : Lawful M) (s : State) (K : Known M s) where
  abbrev F : Facts M s
  F = K.facts

  conflict_stands : (o : Option (List ℕ)) → s.conflict ≡ o → IfSome o (ConflictStands M s)
  conflict_stands None q = tt
  conflict_stands (Some C) q =
      let f = F.conflict C q in
      record { proper = f.proper; falsified = λ m i. contains _ _ (f.falsified m (contained C m i)) }

  verdict_stands : (o : Option Verdict) → s.verdict ≡ o → IfSome o (λ v. VerdictSays M s v (verdict_number v))
  verdict_stands None q = tt
  verdict_stands (Some verdict.Fit) q = (refl, written_kept M law s.trail (proper_trail M (live_in s) s.trail F.trail) s.book (F.fit q))
  verdict_stands (Some verdict.NoFit) q = (refl, F.no_fit q)

  entry_follows : (e : Entry) (before : List Entry) → At s.trail e before → e.reason ≢ Decided → Follows M s e before
  entry_follows e b a n =
      ⊎_elim (λ d. absurd (n d))
      (λ (x : Grounded M (live_in s) e b). record {
        by = x.by;
        explains = explained_from M s e b x.by x.is;
        own = contains x.by e.literal x.grounds.own;
        others = all_but b e.literal x.by x.grounds.others;
      })
      (ground M (live_in s) e b (sound_at M (live_in s) s.trail F.trail e b a))

  pub stands : Stands M s
  stands =
      let few = K.few in
      record {
        verdict = verdict_stands s.verdict refl;
        goes_on = λ q h len place. progress M law s F len place q h;
        allowed = F.within;
        bounded = omega arith;
        enough = λ h. omega arith;
        trail = proper_trail M (live_in s) s.trail F.trail;
        conflict = conflict_stands s.conflict refl;
        follows = entry_follows;
      }

pub histories_stand : (M : Meaning) → Lawful M → HistoriesStand M
histories_stand M law book b allowance steps =
    let same = run_same M book allowance steps in
    record {
      book_is = same.0;
      allowance_is = same.1;
      counted = omega (arith, run_counted M steps (opened book allowance));
      stands = stands M law (run M (opened book allowance) steps) (run_known M law book b allowance steps);
    }

pub reached_stand : (M : Meaning) → Lawful M → ReachedStand M
reached_stand M law s r = stands M law s (reached_known M law s r)
