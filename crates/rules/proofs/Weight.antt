-- How long a history can be: the trail is read as a number in base 3, which a jump raises, and each step is paid for.
-- Assumes nothing.
use Rattle.std.proofs.Common.{◌≡◌, ℕ, zero, suc, ◌+◌, ◌-◌, ◌*◌, ◌^◌, ◌<◌, ◌≤◌, Bool, true, false, cond, ◌≢◌, List, [], ◌∷◌, length, filter, set, get_or, count_by, is_some, Option, Some, None, refl, ap, ◌∙◌, subst, ⊎_elim, arith, mul-le-mul_left}
use Rattle.std.proofs.Math.Nat.{pow-zero, pow-succ'}
use Rattle.std.proofs.lemmas.Bool.{both_ways, le-ltb}
use Rattle.std.proofs.lemmas.List.Sums.{sum_by-set}
use Rattle.theory.specs.Literals.{complement, has}
use Rattle.theory.specs.Meaning.{Meaning}
use Rattle.rules.specs.declared.entry.Reason.{Reason}
use Rattle.rules.specs.declared.entry.Reason.TheVariants.{Decided, Clause, Theory}
use Rattle.rules.specs.declared.entry.Entry.{Entry}
use Rattle.rules.specs.declared.step.Step.{Step}
use Rattle.rules.specs.declared.step.Verdict.{Verdict}
use Rattle.rules.specs.declared.step.Verdict.TheVariants as verdict
use Rattle.rules.specs.Clauses.{only}
use Rattle.rules.specs.States.{State, opened, literals, level}
use Rattle.rules.specs.Rules.{false_on, above, hit, latest, is_learned, live_in, theory_blames, explained, longer, remains, resolved, conflicting, resolving, jumping, forgetting, ending}
use Rattle.rules.specs.Histories.{most_steps}
use Rattle.rules.proofs.Lists.{has_cases}
use Rattle.rules.proofs.Clauses.{set_only}
use Rattle.rules.proofs.Trails.{twice, not_named, SoundTrail, trail_few}
use Rattle.rules.proofs.Views.{Finds, here, there, latest_view, latest_before, latest_sound, Cuts, stop, more, decided_since, cut_above}
use Rattle.rules.proofs.Accepted.{Accepted, decides, propagates, implies, conflicts, clashes, resolves, jumps, forgets, fits, ends, Going}
use Rattle.rules.proofs.Invariant.{Sound, remains_cases, learned_number}

-- ---- the trail as a number

digit : Reason → ℕ
digit Decided = 1
digit (Clause c) = 2
digit Theory = 2

-- a number of `n` digits in base 3, the trail's oldest entry the greatest digit
weight : ℕ → List Entry → ℕ
weight n [] = 0
weight n (e ∷ t) = weight n t + digit e.reason * 3 ^ (n - suc (length t))

pow_at_least : (k : ℕ) → 1 ≤ 3 ^ k
pow_at_least zero = rw pow-zero (omega arith)
pow_at_least (suc k) = rw (pow-succ' 3 k) (omega (arith, pow_at_least k))

pow_step : (n m : ℕ) → m < n → 3 ^ (n - m) ≡ 3 * 3 ^ (n - suc m)
pow_step n m h = let e : n - m ≡ suc (n - suc m) = omega arith in ap (λ (k : ℕ). 3 ^ k) e ∙ pow-succ' 3 (n - suc m)

digit_room : (r : Reason) (x : ℕ) → (digit r * x + x ≤ 3 * x) × (x ≤ digit r * x)
unfolding digit
digit_room Decided x = (omega arith, omega arith)
digit_room (Clause c) x = (omega arith, omega arith)
digit_room Theory x = (omega arith, omega arith)

module _ (n : ℕ) where
  -- one more entry, and all that could follow it
  one_more : (e : Entry) (t : List Entry) → length t < n → weight n (e ∷ t) + 3 ^ (n - suc (length t)) ≤ weight n t + 3 ^ (n - length t)
  unfolding weight
  one_more e t h = omega (arith, pow_step n (length t) h, digit_room e.reason (3 ^ (n - suc (length t))))

  more_weight : (e : Entry) (t : List Entry) → weight n t + 1 ≤ weight n (e ∷ t)
  unfolding weight
  more_weight e t = omega (arith, digit_room e.reason (3 ^ (n - suc (length t))), pow_at_least (n - suc (length t)))

  all_weight : (t : List Entry) → length t ≤ n → weight n t + 3 ^ (n - length t) ≤ 3 ^ n
  unfolding weight
  all_weight [] h = let e : n - 0 ≡ n = omega arith in rw e (omega arith)
  all_weight (e ∷ t) h = omega (arith, one_more e t h, all_weight t (omega arith))

  weight_below : (t : List Entry) → length t ≤ n → weight n t + 1 ≤ 3 ^ n
  weight_below t h = omega (arith, all_weight t h, pow_at_least (n - length t))

  -- what is cut off began with a decided literal: a literal with a reason in its place weighs more than all of it
  cut_weight : (k : ℕ) {t u r : List Entry} {d : Entry} → Cuts k t (d ∷ u) r → length t ≤ n → weight n t + 3 ^ (n - length t) ≤ weight n r + 2 * 3 ^ (n - suc (length r))
  unfolding weight digit
  cut_weight k (more {e = e} {t = t} h (stop g)) b =
      let q : e.reason ≡ Decided = decided_since e.reason k (level t) h g in
      let w : digit e.reason ≡ 1 = ap digit q in
      rw w (omega arith)
  cut_weight k (more {e = e} h (more {e = d} {t = t} g v)) b = omega (arith, one_more e (d ∷ t) b, cut_weight k (more {e = d} g v) (omega arith))

  jump_weight : (k : ℕ) {t u r : List Entry} {d : Entry} → Cuts k t (d ∷ u) r → length t ≤ n → (l c : ℕ) → weight n t + 1 ≤ weight n (record { literal = l; reason = Clause c } ∷ r)
  unfolding weight digit
  jump_weight k {t} v b l c = omega (arith, cut_weight k v b, pow_at_least (n - length t))

-- ---- how high a conflict stands

-- one above the highest position of a literal whose complement is in the conflict
top : List ℕ → List Entry → ℕ
top C [] = 0
top C (e ∷ t) = cond (hit C e) (suc (length t)) (top C t)

top_le : (C : List ℕ) (t : List Entry) → top C t ≤ length t
unfolding top
top_le C [] = omega arith
top_le C (e ∷ t) = go (hit C e) (top_le C t)
  where
    go : (b : Bool) → top C t ≤ length t → cond b (suc (length t)) (top C t) ≤ suc (length t)
    go true h = omega arith
    go false h = omega arith

latest_top : {C : List ℕ} {t r : List Entry} {e : Entry} → Finds C t e r → top C t ≡ suc (length r)
unfolding top
latest_top (here h) = rw h
latest_top (there h v) = rw h (latest_top v)

latest_shorter : {C : List ℕ} {t r : List Entry} {e : Entry} → Finds C t e r → length r < length t
latest_shorter (here h) = omega arith
latest_shorter (there h v) = omega (arith, latest_shorter v)

-- of a clause whose literals are false on the trail before an entry nothing stands higher
top_before : (M : Meaning) (clause_at : ℕ → Option (List ℕ)) (C D : List ℕ) {t r : List Entry} {e : Entry} → Finds C t e r → SoundTrail M clause_at t
    → ((m : ℕ) → has D m ≡ true → false_on r m ≡ true) → top D t ≤ length r
unfolding top
top_before M clause_at C D (here {e = e} {t = t} h) k f = go (hit D e) refl
  where
    go : (b : Bool) → hit D e ≡ b → cond b (suc (length t)) (top D t) ≤ length t
    go true q = absurd (not_named (literals t) e.literal k.0.fresh (subst (λ z. has (literals t) z ≡ true) (twice e.literal) (f (complement e.literal) q)))
    go false q = top_le D t
top_before M clause_at C D (there {d = d} {t = t} {r = r} h v) k f = go (hit D d) refl (top_before M clause_at C D v k.1 f)
  where
    go : (b : Bool) → hit D d ≡ b → top D t ≤ length r → cond b (suc (length t)) (top D t) ≤ length r
    go true q z =
        absurd (not_named (literals t) d.literal k.0.fresh
        (latest_before C v d.literal (subst (λ z. has (literals r) z ≡ true) (twice d.literal) (f (complement d.literal) q))))
    go false q z = z

-- a literal of a conflict other than the latest is false before the latest
latest_rest : (C : List ℕ) {t r : List Entry} {e : Entry} → Finds C t e r → (m : ℕ) → has C m ≡ true → m ≢ complement e.literal → false_on t m ≡ true → false_on r m ≡ true
latest_rest C (here {e = e} {t = t} h) m i n j =
    ⊎_elim (λ (q : e.literal ≡ complement m). absurd (n (omega arith))) (λ w. w) (has_cases e.literal (literals t) (complement m) j)
latest_rest C (there {d = d} {e = e} {t = t} h v) m i n j =
    ⊎_elim
    (λ (q : d.literal ≡ complement m).
    let p : complement d.literal ≡ m = omega arith in
    absurd (both_ways (has C m) (subst (λ z. has C z ≡ false) p h) i))
    (λ w. latest_rest C v m i n w)
    (has_cases d.literal (literals t) (complement m) j)

-- ---- what is paid

-- the number of live learned clauses
lives : List (Option (List ℕ)) → ℕ
lives os = count_by is_some os

one : Option (List ℕ) → ℕ
one o = cond (is_some o) 1 0

lives_set : (os : List (Option (List ℕ))) (i : ℕ) (o : Option (List ℕ)) → i < length os → lives (set os i o) + one (get_or os i None) ≡ lives os + one o
unfolding lives one
lives_set os i o h = sum_by-set (λ (w : Option (List ℕ)). cond (is_some w) 1 0) os i o None h

slack : ℕ → Option (List ℕ) → List Entry → ℕ
slack n None t = 0
slack n (Some C) t = 1 + (n - top C t)

said : Option Verdict → ℕ
said None = 0
said (Some v) = 1

pub record Budget (n : ℕ) (s : State) : Type 0 where
  paid : s.count + lives s.learned ≤ (n + 3) * weight n s.trail + slack n s.conflict s.trail + said s.verdict

raise : (n w w' : ℕ) → w + 1 ≤ w' → (n + 3) * w + n + 3 ≤ (n + 3) * w'
raise n w w' h = omega (arith, mul-le-mul_left (n + 3) h)

module _ (M : Meaning) (s : State) (S : Sound M s) (B : Budget M.claims s) (going : Going s) where
  abbrev n : ℕ
  n = M.claims

  short : length s.trail ≤ n
  short = trail_few M (live_in s) s.trail S.facts.trail

  unsaid : said s.verdict ≡ 0
  unfolding said
  unsaid = ap said going.verdict

  quiet : s.conflict ≡ None → s.count + lives s.learned ≤ (n + 3) * weight n s.trail
  unfolding slack
  quiet q =
      let b : slack n s.conflict s.trail ≡ 0 = ap (λ o. slack n o s.trail) q in
      omega (arith, B.paid, unsaid)

  disputed : (C : List ℕ) → s.conflict ≡ Some C → s.count + lives s.learned ≤ (n + 3) * weight n s.trail + 1 + (n - top C s.trail)
  unfolding slack
  disputed C q =
      let b : slack n s.conflict s.trail ≡ 1 + (n - top C s.trail) = ap (λ o. slack n o s.trail) q in
      omega (arith, B.paid, unsaid)

  longer_paid : s.conflict ≡ None → (l : ℕ) (r : Reason) → Budget n (longer s l r)
  unfolding slack said
  longer_paid q l r =
      let e : Entry = record { literal = l; reason = r } in
      record { paid = omega (arith, quiet q, raise n (weight n s.trail) (weight n (e ∷ s.trail)) (more_weight n e s.trail)) }

  conflicting_paid : s.conflict ≡ None → (R : List ℕ) → Budget n (conflicting s R)
  unfolding slack said
  conflicting_paid q R = record { paid = omega (arith, quiet q) }

  resolves_paid : (C R : List ℕ) (e : Entry) (t : List Entry) → s.conflict ≡ Some C → latest C s.trail ≡ Some (e, t)
      → explained (theory_blames M) (live_in s) e.reason e.literal t ≡ Some R → Budget n (resolving s C e.literal R)
  unfolding slack said
  resolves_paid C R e t q g x =
      let view = latest_view C s.trail (e, t) g in
      let k = latest_sound C M (live_in s) view S.facts.trail in
      let before : (m : ℕ) → has (resolved C e.literal R) m ≡ true → false_on t m ≡ true = λ m i.
      ⊎_elim (λ c. latest_rest C view m c.0 c.1 ((S.facts.conflict C q).falsified m c.0)) (λ c. (k.0.grounds R x).others m c.0 c.1)
      (remains_cases C e.literal R m (set_only (remains C e.literal R) m i)) in
      record { paid = omega (arith, disputed C q, latest_top view, latest_shorter view, short, top_before M (live_in s) C (resolved C e.literal R) view S.facts.trail before) }

  jumps_paid : (k c : ℕ) (C : List ℕ) (e : Entry) → s.conflict ≡ Some C → only (filter (hit C) (above k s.trail)) ≡ Some e → is_learned c ≡ true
      → Budget n (jumping s C k c (complement e.literal))
  unfolding slack said one
  jumps_paid k c C e q g b =
      let num = learned_number c b in
      let cut = (cut_above k C s.trail e g).2 in
      let more = lives_set s.learned (c - 512) (Some C) (omega (arith, S.facts.slots, num.0, num.1)) in
      record { paid = omega (arith, disputed C q, more, raise n (weight n s.trail) _ (jump_weight n k cut short (complement e.literal) c)) }

  forgets_paid : (c : ℕ) (R : List ℕ) → live_in s c ≡ Some R → is_learned c ≡ true → Budget n (forgetting s c)
  unfolding said one
  forgets_paid c R q b =
      let num = learned_number c b in
      let e : get_or s.learned (c - 512) None ≡ Some R = rw (le-ltb c 512 num.0) at q in
      let was : one (get_or s.learned (c - 512) None) ≡ 1 = ap one e in
      let less = lives_set s.learned (c - 512) None (omega (arith, S.facts.slots, num.0, num.1)) in
      record { paid = omega (arith, B.paid, less, unsaid) }

  ending_paid : (v : Verdict) → Budget n (ending s v)
  unfolding said
  ending_paid v = record { paid = omega (arith, B.paid, unsaid) }

  pub accepted_paid : {x : Step} {s' : State} → Accepted M s x s' → Budget M.claims s'
  accepted_paid (decides {l = l} f) = longer_paid f.quiet l Decided
  accepted_paid (propagates {l = l} {c = c} f q h t) = longer_paid f.quiet l (Clause c)
  accepted_paid (implies {l = l} f p w) = longer_paid f.quiet l Theory
  accepted_paid (conflicts c {R = R} q g t) = conflicting_paid q R
  accepted_paid (clashes {R = R} q g) = conflicting_paid q R
  accepted_paid (resolves {C = C} {R = R} {e = e} {t = t} q g x) = resolves_paid C R e t q g x
  accepted_paid (jumps k c {C = C} {e = e} q g b w) = jumps_paid k c C e q g b
  accepted_paid (forgets c {R = R} g b w) = forgets_paid c R g b
  accepted_paid (fits q h t p z) = ending_paid verdict.Fit
  accepted_paid (ends q) = ending_paid verdict.NoFit

pub opened_paid : (n : ℕ) (book : List (List ℕ)) (allowance : ℕ) → Budget n (opened book allowance)
unfolding lives slack said
opened_paid n book allowance = record { paid = omega arith }

-- ---- the bound

slack_le : (n : ℕ) (o : Option (List ℕ)) (t : List Entry) → slack n o t ≤ n + 1
unfolding slack
slack_le n None t = omega arith
slack_le n (Some C) t = omega arith

said_le : (w : Option Verdict) → said w ≤ 1
unfolding said
said_le None = omega arith
said_le (Some v) = omega arith

bound : (n w x c : ℕ) → w + 1 ≤ x → c ≤ (n + 3) * w + (n + 1) + 1 → c < (n + 4) * x
bound n w x c h g = omega (arith, mul-le-mul_left (n + 3) h)

pub paid_bound : (M : Meaning) (s : State) → Sound M s → Budget M.claims s → s.count < most_steps M.claims
paid_bound M s S B =
    let n : ℕ = M.claims in
    bound n (weight n s.trail) (3 ^ n) s.count (weight_below n s.trail (trail_few M (live_in s) s.trail S.facts.trail))
    (omega (arith, B.paid, slack_le n s.conflict s.trail, said_le s.verdict))
