-- Where no verdict stands and the allowance is not used up, some step is accepted. Assumes nothing.
use Rattle.std.proofs.Common.{◌≡◌, ℕ, zero, suc, ◌+◌, ◌-◌, ◌*◌, ◌/◌, ◌^◌, ◌<◌, ◌≤◌, Bool, true, false, not, ◌&&◌, ◌||◌, eqb, ltb, leb, ◌≢◌, ◌⊎◌, List, [], ◌∷◌, length, filter, get_or, is_none, is_ok, Option, Some, None, Result, Ok, Err, inl, inr, refl, ap, ◌∙◌, subst, ⊎_elim, arith}
use Rattle.std.proofs.lemmas.Bool.{both_ways, cases_Bool, and_from, or_from, or_parts, eqb-false, not_from_false, ne_eqb, lt-ltb, le-ltb, le-leb, lt-leb}
use Rattle.std.specs.List.{list_all, list_any}
use Rattle.theory.specs.Literals.{complement, has, names}
use Rattle.theory.specs.Meaning.{Answer, possible, impossible, Meaning, Lawful}
use Rattle.theory.proofs.Claims.{names_same}
use Rattle.rules.specs.declared.entry.Reason.{Reason}
use Rattle.rules.specs.declared.entry.Reason.TheVariants.{Decided, Clause, Theory}
use Rattle.rules.specs.declared.entry.Entry.{Entry}
use Rattle.rules.specs.declared.step.Step.{Step}
use Rattle.rules.specs.declared.step.Step.TheVariants as step
use Rattle.rules.specs.declared.refusal.Refusal.{Refusal}
use Rattle.rules.specs.Clauses.{only}
use Rattle.rules.specs.States.{State, literals, asserted, decisions, level}
use Rattle.rules.specs.Moves.{Going, Moves, Possible, Impossible, blamed}
use Rattle.rules.specs.Next.{Ready, decide, conflict, no_fit, resolve, jump, forget, Unready, settled, crowded, ToBeHad}
use Rattle.rules.specs.Rules.{true_on, false_on, above, hit, latest, is_clause, is_reason, is_learned, live_in, blame, is_possible, theory_blames, explained, demand, given, without, rule, judge, full}
use Rattle.rules.specs.Histories.{CanPropose, GoesOn}
use Rattle.rules.proofs.Lists.{has_list_all, list_any_not, all_below_at, all_below_not, missing, failing}
use Rattle.rules.proofs.Clauses.{proper_below}
use Rattle.rules.proofs.Trails.{Grounded, ground, trail_few}
use Rattle.rules.proofs.Views.{Finds, here, there, latest_view, latest_sound, above_none}
use Rattle.rules.proofs.Invariant.{Facts, number_learned, learned_number}
use Rattle.rules.proofs.Judging.{no_latest, judged_move}

-- ---- checks that are passed

go_demand : {A : Type 0} (b : Bool) (r : Refusal) (o : Result A Refusal) → b ≡ true → is_ok o ≡ true → is_ok (demand b r o) ≡ true
go_demand true r o h a = a
go_demand false r o h a = absurd (both_ways false refl h)

go_given : {A B : Type 0} (x : Option A) (r : Refusal) (f : A → Result B Refusal) (a : A) → x ≡ Some a → is_ok (f a) ≡ true → is_ok (given x r f) ≡ true
go_given None r f a h g = absurd (cc)
go_given (Some y) r f a h g = let e : a ≡ y = cc in subst (λ z. is_ok (f z) ≡ true) e g

go_without : {A B : Type 0} (x : Option A) (r : Refusal) (o : Result B Refusal) → x ≡ None → is_ok o ≡ true → is_ok (without x r o) ≡ true
go_without None r o h a = a
go_without (Some y) r o h a = absurd (cc)

ok_from : {A : Type 0} (o : Result A Refusal) → is_ok o ≡ true → (a : A) × (o ≡ Ok a)
ok_from (Ok a) h = (a, refl)
ok_from (Err r) h = absurd (both_ways false refl h)

-- ---- what is found

-- a level is at most the trail's length
decides_few : (r : Reason) → decisions r ≤ 1
decides_few Decided = omega arith
decides_few (Clause c) = omega arith
decides_few Theory = omega arith

level_few : (t : List Entry) → level t ≤ length t
level_few [] = omega arith
level_few (e ∷ t) = omega (arith, decides_few e.reason, level_few t)

-- where the latest literal is decided, a jump to the level below it finds that literal alone
alone : (C : List ℕ) {t r : List Entry} {e : Entry} → Finds C t e r → e.reason ≡ Decided → (filter (hit C) (above (level r) t) ≡ e ∷ []) × (level r < level t)
alone C (here {e = e} {t = t} h) q =
    let d : decisions e.reason ≡ 1 = ap decisions q in
    let g : level t < decisions e.reason + level t = omega arith in
    (rw (lt-leb (decisions e.reason + level t) (level t) g, above_none (level t) t (omega arith), h), g)
alone C (there {d = d} {t = t} {r = r} h v) q =
    let i = alone C v q in
    let g : level r < decisions d.reason + level t = omega (arith, i.1) in
    (rw (lt-leb (decisions d.reason + level t) (level r) g, h) i.0, g)

-- the places of the learned clauses that are reasons
used_by : Reason → List ℕ → List ℕ
used_by Decided us = us
used_by (Clause c) us = (c - 512) ∷ us
used_by Theory us = us

used : List Entry → List ℕ
used [] = []
used (e ∷ t) = used_by e.reason (used t)

used_by_more : (r : Reason) (us : List ℕ) → length (used_by r us) ≤ suc (length us)
unfolding used_by
used_by_more Decided us = omega arith
used_by_more (Clause c) us = omega arith
used_by_more Theory us = omega arith

used_few : (t : List Entry) → length (used t) ≤ length t
unfolding used
used_few [] = omega arith
used_few (e ∷ t) = omega (arith, used_by_more e.reason (used t), used_few t)

used_fewer : (C : List ℕ) {t r : List Entry} {e : Entry} → Finds C t e r → e.reason ≡ Decided → length (used t) < length t
unfolding used used_by
used_fewer C (here {e = e} {t = t} h) q = rw q (omega (arith, used_few t))
used_fewer C (there {d = d} {t = t} h v) q = omega (arith, used_by_more d.reason (used t), used_fewer C v q)

not_used : (k : ℕ) (t : List Entry) → has (used t) k ≡ false → is_reason (512 + k) t ≡ false
unfolding used used_by
not_used k [] n = refl
not_used k (e ∷ t) n = go e.reason n (not_used k t)
  where
    go : (r : Reason) → has (used_by r (used t)) k ≡ false → (has (used t) k ≡ false → is_reason (512 + k) t ≡ false) → (is_clause (512 + k) r || is_reason (512 + k) t) ≡ false
    go Decided h rest = rest h
    go Theory h rest = rest h
    go (Clause c) h rest =
        let b = or_parts (eqb (c - 512) k) (has (used t) k) h in
        let ne : c - 512 ≢ k = eqb-false (c - 512) k b.0 in
        rw (ne_eqb c (512 + k) (λ z. ne (omega arith))) (rest b.1)

-- a free place, or all are live
free_or_live : (os : List (Option (List ℕ))) → ((i : ℕ) × (i < length os) × (get_or os i None ≡ None)) ⊎ ((i : ℕ) → i < length os → (R : List ℕ) × (get_or os i None ≡ Some R))
free_or_live [] = inr (λ i h. absurd (omega arith))
free_or_live (None ∷ os) = inl (0, omega arith, refl)
free_or_live (Some R ∷ os) = ⊎_elim (λ r. inl (suc r.0, omega (arith, r.1), r.2)) (λ f. inr (all f)) (free_or_live os)
  where
    all : ((i : ℕ) → i < length os → (S : List ℕ) × (get_or os i None ≡ Some S)) → (i : ℕ) → i < suc (length os) → (S : List ℕ) × (get_or (Some R ∷ os) i None ≡ Some S)
    all f zero h = (R, refl)
    all f (suc i) h = f i (omega arith)

cases_Decided : (r : Reason) → (r ≡ Decided) ⊎ (r ≢ Decided)
cases_Decided Decided = inl refl
cases_Decided (Clause c) = inr (λ q. absurd (cc))
cases_Decided Theory = inr (λ q. absurd (cc))

-- ---- a step

module _ (M : Meaning) (law : Lawful M) (s : State) (F : Facts M s) where
  live_at : (i : ℕ) → live_in s (512 + i) ≡ get_or s.learned i None
  live_at i = let e : 512 + i - 512 ≡ i = omega arith in rw (le-ltb (512 + i) 512 (omega arith), e)

  -- on a full trail a literal that is not true is false
  false_where_full : full M.claims s.trail ≡ true → (m : ℕ) → m < 2 * M.claims → has (literals s.trail) m ≡ false → false_on s.trail m ≡ true
  false_where_full f m low h =
      ⊎_elim (λ (e : false_on s.trail m ≡ true). e)
      (λ (e : false_on s.trail m ≡ false).
      absurd (both_ways (names (literals s.trail) (2 * (m / 2)))
      (names_same (literals s.trail) m (2 * (m / 2)) (omega arith) (or_from (has (literals s.trail) m) (has (literals s.trail) (complement m)) h e))
      (all_below_at M.claims (λ i. names (literals s.trail) (2 * i)) f (m / 2) (omega arith))))
      (cases_Bool (false_on s.trail m))

  few_levels : (C : List ℕ) {e : Entry} {r : List Entry} → Finds C s.trail e r → e.reason ≡ Decided → level r < 2 ^ 16
  few_levels C {r = r} v d = omega (arith, (alone C v d).1, level_few s.trail, trail_few M (live_in s) s.trail F.trail, law.few_claims)

  -- what is to be had is accepted, and a caller can propose it
  pub ready_goes : (len : ℕ) {x : Step} → Ready M.claims s x → CanPropose len x × (is_ok (rule M s x) ≡ true)
  ready_goes len (decide {l = l} q low off) = (
    omega (arith, low, law.few_claims),
    go_without s.conflict _ _ q (go_demand (ltb l (2 * M.claims)) _ _ (lt-ltb l (2 * M.claims) low)
        (go_demand (not (names (literals s.trail) l)) _ _ (not_from_false (names (literals s.trail) l) off) refl)),
  )
  ready_goes len (conflict {c = c} {R = R} q f b at h) = (
    omega (arith, b),
    go_without s.conflict _ _ q (go_given (live_in s c) _ _ R at (go_demand (list_all (false_on s.trail) R) _ _
        (has_list_all (false_on s.trail) R (λ m i. false_where_full f m (proper_below M.claims R (F.clauses c R at) m i) (list_any_not (true_on s.trail) R h m i)))
        refl)),
  )
  ready_goes len (no_fit {C = C} q h) = (tt, go_given s.conflict _ _ [] (no_latest M law s F C q h) refl)
  ready_goes len (resolve {C = C} {e = e} {before = r} q h n) =
      ⊎_elim (λ d. absurd (n d))
      (λ (x : Grounded M (live_in s) e r). (
        tt,
        go_given s.conflict _ _ C q (go_given (latest C s.trail) _ _ (e, r) h (go_given (explained (theory_blames M) (live_in s) e.reason e.literal r) _ _ x.by x.is refl)),
      ))
      (ground M (live_in s) e r (latest_sound C M (live_in s) (latest_view C s.trail (e, r) h) F.trail).0)
  ready_goes len (jump {C = C} {e = e} {before = r} {c = c} q h d b n) =
      let v = latest_view C s.trail (e, r) h in
      let k = learned_number c b in (
        (omega (arith, few_levels C v d), omega (arith, k.1)),
        go_given s.conflict _ _ C q (go_given (only (filter (hit C) (above (level r) s.trail))) _ _ e (ap only (alone C v d).0)
            (go_demand (is_learned c && is_none (live_in s c)) _ _ (and_from (is_learned c) (is_none (live_in s c)) b (ap is_none n)) refl)),
      )
  ready_goes len (forget {c = c} {R = R} h b n) =
      let k = learned_number c b in (
        omega (arith, k.1),
        go_given (live_in s c) _ _ R h
            (go_demand (is_learned c) _ _ b (go_demand (not (is_reason c s.trail)) _ _ (not_from_false (is_reason c s.trail) n) refl)),
      )

  -- where the latest literal is decided, some learned number is of no reason
  no_crowd : (C : List ℕ) {e : Entry} {r : List Entry} → Finds C s.trail e r → e.reason ≡ Decided → (i : ℕ) × (i < 128) × (is_reason (512 + i) s.trail ≡ false)
  no_crowd C v d =
      let h : length (used s.trail) < 128 = omega (arith, used_fewer C v d, law.few_claims, trail_few M (live_in s) s.trail F.trail) in
      let m = missing 128 (used s.trail) h in
      (m.0, m.1, not_used m.0 s.trail m.2)

  -- every claim is on the trail, and every clause of the book has a true literal
  abbrev pub Settled : Type 0
  Settled = (s.conflict ≡ None) × (full M.claims s.trail ≡ true) × (list_all (list_any (true_on s.trail)) s.book ≡ true)

  -- so where nothing is to be had, the theory is to tell
  pub unready_settled : Unready M.claims s → Settled
  unready_settled (settled q f h) = (
    q,
    f,
    ⊎_elim (λ (e : list_all (list_any (true_on s.trail)) s.book ≡ true). e)
        (λ (e : list_all (list_any (true_on s.trail)) s.book ≡ false).
        let r = failing (list_any (true_on s.trail)) s.book e in
        let b : r.0 < 512 = omega (arith, r.1, F.few_clauses) in
        absurd (both_ways (list_any (true_on s.trail) r.2) r.4 (h r.0 r.2 b (rw (lt-ltb r.0 512 b) r.3))))
        (cases_Bool (list_all (list_any (true_on s.trail)) s.book)),
  )
  unready_settled (crowded {C = C} {e = e} {before = r} q h d all) =
      let m = no_crowd C (latest_view C s.trail (e, r) h) d in
      absurd (both_ways (is_reason (512 + m.0) s.trail) m.2 (all m.0 m.1))

  -- and what it tells is accepted
  pub fit_goes : (len : ℕ) → M.terms ≤ len → Settled → Possible M (asserted s.trail) → CanPropose len (step.Fit M.terms) × (is_ok (rule M s (step.Fit M.terms)) ≡ true)
  fit_goes len place k e = (
    place,
    go_without s.conflict _ _ k.0 (go_demand (full M.claims s.trail) _ _ k.1 (go_demand (list_all (list_any (true_on s.trail)) s.book) _ _ k.2
        (go_demand (is_possible (M.answer (asserted s.trail))) _ _ (ap is_possible e) (go_demand (leb M.terms M.terms) _ _ (le-leb M.terms M.terms (omega arith)) refl)))),
  )

  pub clash_goes : (len : ℕ) → Settled → Impossible M (asserted s.trail) → CanPropose len step.Clash × (is_ok (rule M s step.Clash) ≡ true)
  clash_goes len k i = (
    tt,
    go_without s.conflict _ _ k.0 (go_given (blame (asserted s.trail) (M.answer (asserted s.trail))) _ _ (blamed (asserted s.trail) i.0) (ap (blame (asserted s.trail)) i.1) refl),
  )

  -- so it moves
  moves : Going s → (x : Step) → is_ok (rule M s x) ≡ true → (s' : State) × Moves M s x s'
  moves g x a =
      let left = g.left in
      let r = ok_from (judge M s x) (go_demand (is_none s.verdict) _ _ (ap is_none g.no_verdict)
      (go_demand (not (eqb s.count s.allowance)) _ _ (not_from_false (eqb s.count s.allowance) (ne_eqb s.count s.allowance (λ e. omega arith))) a)) in
      (r.0, judged_move M law s F x r.0 r.1)

  pub to_be_had : (x : Step) → CanPropose M.terms x × (is_ok (rule M s x) ≡ true) → ToBeHad M s x
  to_be_had x a = record { proposable = a.0; accepted = λ g. moves g x a.1 }

  -- ---- some step is to be had

  abbrev SomeStep : Type 0
  SomeStep = (x : Step) × Ready M.claims s x

  quiet_step : s.conflict ≡ None → SomeStep ⊎ Settled
  quiet_step q =
      ⊎_elim
      (λ f.
      ⊎_elim (λ h. inr (q, f, h))
      (λ h.
      let r = failing (list_any (true_on s.trail)) s.book h in
      let b : r.0 < 512 = omega (arith, r.1, F.few_clauses) in
      inl (step.Conflict r.0, conflict q f b (rw (lt-ltb r.0 512 b) r.3) r.4))
      (cases_Bool (list_all (list_any (true_on s.trail)) s.book)))
      (λ h.
      let r = all_below_not M.claims (λ i. names (literals s.trail) (2 * i)) h in
      inl (step.Decide (2 * r.0), decide q (omega (arith, r.1)) r.2))
      (cases_Bool (full M.claims s.trail))

  -- the latest literal is decided: jump, or forget a clause that is no reason
  jump_step : (C : List ℕ) (e : Entry) (r : List Entry) → s.conflict ≡ Some C → latest C s.trail ≡ Some (e, r) → e.reason ≡ Decided → SomeStep
  jump_step C e r q h d =
      ⊎_elim (λ f. let b : f.0 < 128 = omega (arith, f.1, F.slots) in (step.Jump (level r) (512 + f.0), jump q h d (number_learned (512 + f.0) (omega arith) (omega arith)) (live_at f.0 ∙ f.2)))
      (λ f.
      let m = no_crowd C (latest_view C s.trail (e, r) h) d in
      let R = f m.0 (omega (arith, m.1, F.slots)) in
      (step.Forget (512 + m.0), forget (live_at m.0 ∙ R.1) (number_learned (512 + m.0) (omega arith) (omega (arith, m.1))) m.2))
      (free_or_live s.learned)

  latest_step : (C : List ℕ) → s.conflict ≡ Some C → (at : Option (Entry × List Entry)) → latest C s.trail ≡ at → SomeStep
  latest_step C q None h = (step.NoFit, no_fit q h)
  latest_step C q (Some at) h =
      ⊎_elim (λ d. jump_step C at.0 at.1 q h d) (λ n. (step.Resolve, resolve q h n)) (cases_Decided at.0.reason)

  some_step : (o : Option (List ℕ)) → s.conflict ≡ o → SomeStep ⊎ Settled
  some_step None q = quiet_step q
  some_step (Some C) q = inl (latest_step C q (latest C s.trail) refl)

  query : (len : ℕ) → M.terms ≤ len → Settled → (a : Answer) → M.answer (asserted s.trail) ≡ a → (x : Step) × (CanPropose len x × (is_ok (rule M s x) ≡ true))
  query len place k possible e = (step.Fit M.terms, fit_goes len place k e)
  query len place k (impossible core) e = (step.Clash, clash_goes len k (core, e))

  pub progress : (len : ℕ) → M.terms ≤ len → s.verdict ≡ None → s.count < s.allowance → GoesOn M s len
  progress len place v h =
      let x = ⊎_elim (λ (r : SomeStep). (r.0, ready_goes len r.1)) (λ (k : Settled). query len place k (M.answer (asserted s.trail)) refl) (some_step s.conflict refl) in
      (x.0, x.1.0, moves (record { no_verdict = v; left = h }) x.0 x.1.1)
