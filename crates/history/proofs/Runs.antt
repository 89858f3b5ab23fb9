-- What the answers to a run say of the state that it leads to, and of the place. Assumes nothing.
use Rattle.std.proofs.Common.{◌≡◌, ℕ, zero, suc, ◌+◌, ◌<◌, ◌⊎◌, List, [], ◌∷◌, length, slice_get, slice_index, is_ok, Option, Some, None, Result, Ok, Err, ℤ, inl, inr, sym, refl, ap, ◌∙◌, subst, ⊎_elim, arith}
use Rattle.std.specs.Prelude.{if◌then◌else◌}
use Rattle.theory.specs.Meaning.{Meaning}
use Rattle.theory.specs.Calls.{over}
use Rattle.rules.specs.declared.refusal.Refusal.{Refusal}
use Rattle.rules.specs.declared.refusal.Refusal.TheVariants.{VerdictStands}
use Rattle.rules.specs.declared.step.Step.{Step}
use Rattle.rules.specs.declared.step.Step.TheVariants.{Decide, Propagate, Imply, Conflict, Clash, Resolve, Jump, Forget, Fit, NoFit}
use Rattle.rules.specs.declared.step.Verdict.{Verdict}
use Rattle.rules.specs.declared.step.Verdict.TheVariants as verdict
use Rattle.rules.specs.States.{State, asserted, Outcome, says, leaves}
use Rattle.rules.specs.Rules.{judge}
use Rattle.rules.specs.Runs.{after, run, answers}
use Rattle.rules.specs.Histories.{tally}
use Rattle.rules.proofs.Accepted as step
use Rattle.rules.proofs.Accepted.{Leads, Going, judge_accepts, accepted_next}
use Rattle.history.specs.Fits.{written, fit_over}
use Rattle.history.specs.Replays.{place_after}
use Rattle.history.specs.Law.{Accepted, Unfit, counts}

-- ---- the accepted ones among some steps

accepted_here : (x : Step) (xs : List Step) (r : Result ℕ Refusal) (rs : List (Result ℕ Refusal)) (count : ℕ) → r ≡ Ok count → Accepted (x ∷ xs) (r ∷ rs) x
accepted_here x xs r rs count e = (0, count, refl, ap Some e)

accepted_later : (x : Step) (xs : List Step) (r : Result ℕ Refusal) (rs : List (Result ℕ Refusal)) (y : Step) → Accepted xs rs y → Accepted (x ∷ xs) (r ∷ rs) y
accepted_later x xs r rs y a = (suc a.0, a.1, a.2, a.3)

accepted_cases : (x : Step) (xs : List Step) (r : Result ℕ Refusal) (rs : List (Result ℕ Refusal)) (y : Step) → Accepted (x ∷ xs) (r ∷ rs) y
    → ((x ≡ y) × ((count : ℕ) × (r ≡ Ok count))) ⊎ Accepted xs rs y
accepted_cases x xs r rs y a = go a.0 a.2 a.3
  where
    go : (i : ℕ) → slice_get (x ∷ xs) i ≡ Some y → slice_get (r ∷ rs) i ≡ Some (Ok a.1) → ((x ≡ y) × ((count : ℕ) × (r ≡ Ok count))) ⊎ Accepted xs rs y
    go zero p q = inl (cc, (a.1, cc))
    go (suc i) p q = inr (i, a.1, p, q)

-- ---- one step

-- the verdict that a step leaves when it is accepted
abbrev pub verdict_by : Step → Option Verdict
verdict_by (Decide l) = None
verdict_by (Propagate c l) = None
verdict_by (Imply l) = None
verdict_by (Conflict c) = None
verdict_by Clash = None
verdict_by Resolve = None
verdict_by (Jump k c) = None
verdict_by (Forget c) = None
verdict_by (Fit len) = Some verdict.Fit
verdict_by NoFit = Some verdict.NoFit

verdict_left : {M : Meaning} {s s' : State} {x : Step} → step.Accepted M s x s' → s'.verdict ≡ verdict_by x
verdict_left (step.decides f) = refl
verdict_left (step.propagates f q h t) = refl
verdict_left (step.implies f p n) = refl
verdict_left (step.conflicts c q g t) = refl
verdict_left (step.clashes q g) = refl
verdict_left (step.resolves q g x) = refl
verdict_left (step.jumps k c q g b n) = refl
verdict_left (step.forgets c g b n) = refl
verdict_left (step.fits q h t p z) = refl
verdict_left (step.ends q) = refl

fit_trail : {M : Meaning} {s s' : State} {x : Step} (len : ℕ) → x ≡ Fit len → step.Accepted M s x s' → s'.trail ≡ s.trail
fit_trail len e (step.decides f) = cc
fit_trail len e (step.propagates f q h t) = cc
fit_trail len e (step.implies f p n) = cc
fit_trail len e (step.conflicts c q g t) = refl
fit_trail len e (step.clashes q g) = refl
fit_trail len e (step.resolves q g x) = refl
fit_trail len e (step.jumps k c q g b n) = cc
fit_trail len e (step.forgets c g b n) = refl
fit_trail len e (step.fits q h t p z) = refl
fit_trail len e (step.ends q) = refl

module _ (M : Meaning) where
  -- what an accepted step does to the state
  pub record Taken (s : State) (x : Step) (s' : State) : Type 0 where
    pub by : step.Accepted M s x s'
    pub verdict : s'.verdict ≡ verdict_by x
    pub counted : s'.count ≡ s.count + 1

  pub taken : (s : State) (x : Step) (s' : State) → judge M s x ≡ Ok s' → Taken s x s'
  taken s x s' e =
      let a = (subst (Leads (λ z. Going s × step.Accepted M s x z)) e (judge_accepts M s x)).to in
      record { by = a.1; verdict = verdict_left a.1; counted = (accepted_next a.1).counted }

  -- after a verdict every step is refused
  over_refused : (s : State) (v : Verdict) → s.verdict ≡ Some v → (x : Step) → judge M s x ≡ Err VerdictStands
  over_refused s v e x = rw e refl

  refused_place : (s : State) (x : Step) (r : Refusal) (place : List ℤ) → judge M s x ≡ Err r → fit_over M s x place ≡ place
  refused_place s (Fit k) r place e = ap (λ o. written M s o place) e
  refused_place s x r place e = refl

  -- a step leaves the place, or a verdict
  step_place : (s : State) (x : Step) (place : List ℤ) → (fit_over M s x place ≡ place) ⊎ ((len : ℕ) × (s' : State) × (x ≡ Fit len) × (judge M s x ≡ Ok s'))
  step_place s (Fit k) place = go (judge M s (Fit k)) refl
    where
      go : (o : Outcome) → judge M s (Fit k) ≡ o → (written M s (judge M s (Fit k)) place ≡ place) ⊎ ((len : ℕ) × (s' : State) × (Fit k ≡ Fit len) × (judge M s (Fit k) ≡ Ok s'))
      go (Ok s') e = inr (k, s', refl, e)
      go (Err r) e = inl (ap (λ o. written M s o place) e)
  step_place s x place = inl refl

  -- ---- a run after a verdict

  pub over_run : (xs : List Step) (s : State) (v : Verdict) → s.verdict ≡ Some v → run M s xs ≡ s
  over_run [] s v e = refl
  over_run (x ∷ xs) s v e = ap (λ o. run M (leaves s o) xs) (over_refused s v e x) ∙ over_run xs s v e

  over_place : (xs : List Step) (s : State) (v : Verdict) (place : List ℤ) → s.verdict ≡ Some v → place_after M s xs place ≡ place
  over_place [] s v place e = refl
  over_place (x ∷ xs) s v place e =
      ap (λ o. place_after M (leaves s o) xs (fit_over M s x place)) (over_refused s v e x)
      ∙ ap (place_after M s xs) (refused_place s x VerdictStands place (over_refused s v e x)) ∙ over_place xs s v place e

  over_none : (xs : List Step) (s : State) (v : Verdict) → s.verdict ≡ Some v → (y : Step) → Accepted xs (answers M s xs) y → ⊥
  over_none [] s v e y a = let z = a.2 in absurd (cc)
  over_none (x ∷ xs) s v e y a =
      let no = over_refused s v e x in
      ⊎_elim
      (λ (p : (x ≡ y) × ((count : ℕ) × (says (judge M s x) ≡ Ok count))). let z = ap says no in let w = p.1.1 in absurd (cc))
      (λ b. over_none xs (leaves s (judge M s x)) v (ap (λ o. (leaves s o).verdict) no ∙ e) y b)
      (accepted_cases x xs (says (judge M s x)) (answers M (after M s x) xs) y a)

  -- ---- what an accepted verdict leaves

  ok_of : (o : Outcome) (count : ℕ) → says o ≡ Ok count → (s' : State) × (o ≡ Ok s')
  ok_of (Ok s') count e = (s', refl)
  ok_of (Err r) count e = absurd (cc)

  pub accepted_verdict : (xs : List Step) (s : State) (y : Step) (v : Verdict) → verdict_by y ≡ Some v → Accepted xs (answers M s xs) y → (run M s xs).verdict ≡ Some v
  accepted_verdict [] s y v e a = let z = a.2 in absurd (cc)
  accepted_verdict (x ∷ xs) s y v e a =
      ⊎_elim
      (λ (p : (x ≡ y) × ((count : ℕ) × (says (judge M s x) ≡ Ok count))).
      let r = ok_of (judge M s x) p.1.0 p.1.1 in
      let there : r.0.verdict ≡ Some v = (taken s x r.0 r.1).verdict ∙ ap verdict_by p.0 ∙ e in
      ap (λ o. (run M (leaves s o) xs).verdict) r.1 ∙ ap (λ z. z.verdict) (over_run xs r.0 v there) ∙ there)
      (λ b. accepted_verdict xs (after M s x) y v e b)
      (accepted_cases x xs (says (judge M s x)) (answers M (after M s x) xs) y a)

  -- the place after an accepted fit
  abbrev Filled : State → List ℤ → List ℤ → Type 0
  Filled s before after = after ≡ over (M.written (asserted s.trail)) before

  pub accepted_place : (xs : List Step) (s : State) (place : List ℤ) (len : ℕ) → Accepted xs (answers M s xs) (Fit len) → Filled (run M s xs) place (place_after M s xs place)
  accepted_place [] s place len a = let z = a.2 in absurd (cc)
  accepted_place (x ∷ xs) s place len a =
      ⊎_elim
      (λ (p : (x ≡ Fit len) × ((count : ℕ) × (says (judge M s x) ≡ Ok count))).
      let r = ok_of (judge M s x) p.1.0 p.1.1 in
      let t = taken s x r.0 r.1 in
      let there : r.0.verdict ≡ Some verdict.Fit = t.verdict ∙ ap verdict_by p.0 in
      let filled : fit_over M s x place ≡ over (M.written (asserted s.trail)) place =
      ap (λ y. fit_over M s y place) p.0 ∙ ap (λ o. written M s o place) (ap (judge M s) (sym p.0) ∙ r.1) in
      ap (λ o. place_after M (leaves s o) xs (fit_over M s x place)) r.1 ∙ over_place xs r.0 verdict.Fit (fit_over M s x place) there ∙ filled
      ∙ ap (λ u. over (M.written (asserted u)) place) (sym (ap (λ o. (run M (leaves s o) xs).trail) r.1 ∙ ap (λ z. z.trail) (over_run xs r.0 verdict.Fit there) ∙ fit_trail len p.0 t.by)))
      (λ b.
      ⊎_elim
      (λ (e : fit_over M s x place ≡ place).
      ap (place_after M (after M s x) xs) e ∙ accepted_place xs (after M s x) place len b)
      (λ (p : (k : ℕ) × (s' : State) × (x ≡ Fit k) × (judge M s x ≡ Ok s')).
      let there : (after M s x).verdict ≡ Some verdict.Fit = ap (λ o. (leaves s o).verdict) p.3 ∙ (taken s x p.1 p.3).verdict ∙ ap verdict_by p.2 in
      absurd (over_none xs (after M s x) verdict.Fit there (Fit len) b))
      (step_place s x place))
      (accepted_cases x xs (says (judge M s x)) (answers M (after M s x) xs) (Fit len) a)

  -- ---- where none is accepted

  tail_unfit : (x : Step) (xs : List Step) (s : State) → Unfit (x ∷ xs) (answers M s (x ∷ xs)) → Unfit xs (answers M (after M s x) xs)
  tail_unfit x xs s u len a = u len (accepted_later x xs (says (judge M s x)) (answers M (after M s x) xs) (Fit len) a)

  ok_here : (x : Step) (xs : List Step) (s s' : State) → judge M s x ≡ Ok s' → Accepted (x ∷ xs) (answers M s (x ∷ xs)) x
  ok_here x xs s s' e = accepted_here x xs (says (judge M s x)) (answers M (after M s x) xs) s'.count (ap says e)

  pub unfit_place : (xs : List Step) (s : State) (place : List ℤ) → Unfit xs (answers M s xs) → place_after M s xs place ≡ place
  unfit_place [] s place u = refl
  unfit_place (x ∷ xs) s place u =
      ⊎_elim
      (λ (e : fit_over M s x place ≡ place). ap (place_after M (after M s x) xs) e ∙ unfit_place xs (after M s x) place (tail_unfit x xs s u))
      (λ (p : (k : ℕ) × (s' : State) × (x ≡ Fit k) × (judge M s x ≡ Ok s')).
      absurd (u p.0 (subst (Accepted (x ∷ xs) (answers M s (x ∷ xs))) p.2 (ok_here x xs s p.1 p.3))))
      (step_place s x place)

  by_none : (x : Step) → ((len : ℕ) → x ≡ Fit len → ⊥) → (x ≡ NoFit → ⊥) → verdict_by x ≡ None
  by_none (Fit len) f n = absurd (f len refl)
  by_none NoFit f n = absurd (n refl)
  by_none x f n = refl

  pub open_end : (xs : List Step) (s : State) → s.verdict ≡ None → Unfit xs (answers M s xs) → (Accepted xs (answers M s xs) NoFit → ⊥) → (run M s xs).verdict ≡ None
  open_end [] s e u n = e
  open_end (x ∷ xs) s e u n =
      open_end xs (after M s x) (go (judge M s x) refl) (tail_unfit x xs s u)
      (λ a. n (accepted_later x xs (says (judge M s x)) (answers M (after M s x) xs) NoFit a))
    where
      go : (o : Outcome) → judge M s x ≡ o → (leaves s o).verdict ≡ None
      go (Err r) q = e
      go (Ok s') q =
          (taken s x s' q).verdict
          ∙ by_none x (λ len z. u len (subst (Accepted (x ∷ xs) (answers M s (x ∷ xs))) z (ok_here x xs s s' q)))
          (λ z. n (subst (Accepted (x ∷ xs) (answers M s (x ∷ xs))) z (ok_here x xs s s' q)))

  -- ---- counts

  pub counts_tally : (xs : List Step) (s : State) → length (counts (answers M s xs)) ≡ tally M s xs
  counts_tally [] s = refl
  counts_tally (x ∷ xs) s = go (judge M s x) (answers M (after M s x) xs) _ (counts_tally xs (after M s x))
    where
      go : (o : Outcome) (rest : List (Result ℕ Refusal)) (k : ℕ) → length (counts rest) ≡ k → length (counts (says o ∷ rest)) ≡ (if is_ok o then 1 else 0) + k
      go (Ok s') rest k h = omega (arith, h)
      go (Err r) rest k h = omega (arith, h)

  pub counts_up : (xs : List Step) (s : State) (i : ℕ) → i < length (counts (answers M s xs)) → slice_index (counts (answers M s xs)) i ≡ s.count + (i + 1)
  counts_up [] s i h = absurd (omega arith)
  counts_up (x ∷ xs) s i h = go (judge M s x) refl (counts_up xs (after M s x)) i h
    where
      Up : State → List ℕ → Type 0
      Up z ks = (i : ℕ) → i < length ks → slice_index ks i ≡ z.count + (i + 1)

      go : (o : Outcome) → judge M s x ≡ o → ((i : ℕ) → i < length (counts (answers M (after M s x) xs)) → slice_index (counts (answers M (after M s x) xs)) i ≡ (after M s x).count + (i + 1))
          → (i : ℕ) → i < length (counts (says o ∷ answers M (after M s x) xs)) → slice_index (counts (says o ∷ answers M (after M s x) xs)) i ≡ s.count + (i + 1)
      go (Ok s') q up zero h = omega (arith, (taken s x s' q).counted)
      go (Ok s') q up (suc i) h = omega (arith, up i (omega arith), ap (λ o. (leaves s o).count) q, (taken s x s' q).counted)
      go (Err r) q up i h = up i h ∙ ap (λ o. (leaves s o).count + (i + 1)) q

  pub answers_each : (xs : List Step) (s : State) → length (answers M s xs) ≡ length xs
  answers_each [] s = refl
  answers_each (x ∷ xs) s = omega (arith, answers_each xs (after M s x))
