-- The accepted steps, as a relation: what passes the checks of a rule, and the state that it comes to. Assumes nothing.
use Rattle.std.proofs.Common.{◌≡◌, ℕ, ◌+◌, ◌*◌, ◌<◌, ◌≤◌, Bool, true, false, not, ◌&&◌, eqb, ltb, leb, ◌≢◌, List, [], ◌∷◌, ◌++◌, filter, slice_get, is_none, Option, Some, None, Result, Ok, Err, IfOk, refl, ap, ◌∙◌}
use Rattle.std.proofs.lemmas.Bool.{both_ways, and_parts, not-true, ltb-true, leb-true, eqb-false}
use Rattle.std.specs.List.{list_all, list_any}
use Rattle.theory.specs.Literals.{complement, has, names}
use Rattle.theory.specs.Meaning.{Meaning}
use Rattle.rules.specs.declared.entry.Reason.TheVariants.{Decided, Clause, Theory}
use Rattle.rules.specs.declared.entry.Entry.{Entry}
use Rattle.rules.specs.declared.step.Step.{Step}
use Rattle.rules.specs.declared.step.Step.TheVariants as step
use Rattle.rules.specs.declared.step.Verdict.{Verdict}
use Rattle.rules.specs.declared.step.Verdict.TheVariants as verdict
use Rattle.rules.specs.declared.refusal.Refusal.{Refusal}
use Rattle.rules.specs.Clauses.{all_below, only}
use Rattle.rules.specs.States.{State, literals, asserted, next, Outcome, leaves}
use Rattle.rules.specs.Rules.{true_on, false_on, false_but, above, hit, latest, is_reason, is_learned, live_in, blame, is_possible, theory_blames, explained, longer, conflicting, resolving, jumping, forgetting, ending, demand, given, without, fresh, rule, judge}
use Rattle.rules.specs.Runs.{after, run}

-- ---- what passes a check

-- what is accepted has a property
pub record Leads {A : Type 0} (P : A → Type 0) (o : Result A Refusal) : Type 0 where
  pub to : IfOk o P

pub on_demand : {A : Type 0} {P : A → Type 0} (b : Bool) (r : Refusal) (o : Result A Refusal) → (b ≡ true → Leads P o) → Leads P (demand b r o)
on_demand true r o h = h refl
on_demand false r o h = record { to = tt }

pub on_given : {A B : Type 0} {P : B → Type 0} (a : Option A) (r : Refusal) (f : A → Result B Refusal) → ((x : A) → a ≡ Some x → Leads P (f x)) → Leads P (given a r f)
on_given None r f h = record { to = tt }
on_given (Some x) r f h = h x refl

pub on_without : {A B : Type 0} {P : B → Type 0} (a : Option A) (r : Refusal) (o : Result B Refusal) → (a ≡ None → Leads P o) → Leads P (without a r o)
on_without None r o h = h refl
on_without (Some x) r o h = record { to = tt }

-- a literal that may go on the trail
pub record Fresh (n : ℕ) (s : State) (l : ℕ) : Type 0 where
  pub quiet : s.conflict ≡ None
  pub below : l < 2 * n
  pub off : names (literals s.trail) l ≡ false

pub on_fresh : {A : Type 0} {P : A → Type 0} (n : ℕ) (s : State) (l : ℕ) (o : Result A Refusal) → (Fresh n s l → Leads P o) → Leads P (fresh n s l o)
on_fresh n s l o h =
    on_without _ _ _ (λ q. on_demand (ltb l (2 * n)) _ _ (λ b. on_demand (not (names (literals s.trail) l)) _ o (λ f.
    h (record { quiet = q; below = ltb-true l (2 * n) b; off = not-true (names (literals s.trail) l) f }))))

-- ---- the accepted steps

-- from `s` the rule of a step leads to this state
pub data Accepted (M : Meaning) (s : State) : Step → State → Type 0 where
  decides : {l : ℕ} → Fresh M.claims s l → Accepted M s (step.Decide l) (longer s l Decided)
  propagates : {l c : ℕ} {R : List ℕ} → Fresh M.claims s l → live_in s c ≡ Some R → has R l ≡ true → false_but s.trail l R ≡ true
      → Accepted M s (step.Propagate c l) (longer s l (Clause c))
  implies : {l : ℕ} → Fresh M.claims s l → is_possible (M.answer (asserted s.trail)) ≡ true → is_possible (M.answer (asserted s.trail ++ complement l ∷ [])) ≡ false
      → Accepted M s (step.Imply l) (longer s l Theory)
  conflicts : (c : ℕ) {R : List ℕ} → s.conflict ≡ None → live_in s c ≡ Some R → list_all (false_on s.trail) R ≡ true → Accepted M s (step.Conflict c) (conflicting s R)
  clashes : {R : List ℕ} → s.conflict ≡ None → blame (asserted s.trail) (M.answer (asserted s.trail)) ≡ Some R → Accepted M s step.Clash (conflicting s R)
  resolves : {C R : List ℕ} {e : Entry} {t : List Entry} → s.conflict ≡ Some C → latest C s.trail ≡ Some (e, t)
      → explained (theory_blames M) (live_in s) e.reason e.literal t ≡ Some R → Accepted M s step.Resolve (resolving s C e.literal R)
  jumps : (k c : ℕ) {C : List ℕ} {e : Entry} → s.conflict ≡ Some C → only (filter (hit C) (above k s.trail)) ≡ Some e → is_learned c ≡ true → live_in s c ≡ None
      → Accepted M s (step.Jump k c) (jumping s C k c (complement e.literal))
  forgets : (c : ℕ) {R : List ℕ} → live_in s c ≡ Some R → is_learned c ≡ true → is_reason c s.trail ≡ false → Accepted M s (step.Forget c) (forgetting s c)
  fits : {place : ℕ} → s.conflict ≡ None → all_below M.claims (λ i. names (literals s.trail) (2 * i)) ≡ true → list_all (list_any (true_on s.trail)) s.book ≡ true
      → is_possible (M.answer (asserted s.trail)) ≡ true → M.terms ≤ place → Accepted M s (step.Fit place) (ending s verdict.Fit)
  ends : s.conflict ≡ Some [] → Accepted M s step.NoFit (ending s verdict.NoFit)

pub none_from_is_none : {A : Type 0} (o : Option A) → is_none o ≡ true → o ≡ None
none_from_is_none None h = refl
none_from_is_none (Some x) h = absurd (both_ways false refl h)

pub empty_from_get : (C : List ℕ) → is_none (slice_get C 0) ≡ true → C ≡ []
empty_from_get [] h = refl
empty_from_get (m ∷ ms) h = absurd (both_ways false refl h)

module _ (M : Meaning) (s : State) where
  rule_accepts : (x : Step) → Leads (Accepted M s x) (rule M s x)
  rule_accepts (step.Decide l) = on_fresh M.claims s l _ (λ f. record { to = decides f })
  rule_accepts (step.Propagate c l) =
      on_fresh M.claims s l _ (λ f. on_given (live_in s c) _ _ (λ R g. on_demand (has R l) _ _ (λ h.
      on_demand (false_but s.trail l R) _ _ (λ t. record { to = propagates f g h t }))))
  rule_accepts (step.Imply l) =
      on_fresh M.claims s l _ (λ f. on_demand (is_possible (M.answer (asserted s.trail))) _ _ (λ p.
      on_demand (not (is_possible (M.answer (asserted s.trail ++ complement l ∷ [])))) _ _ (λ n. record { to = implies f p (not-true _ n) })))
  rule_accepts (step.Conflict c) =
      on_without s.conflict _ _ (λ q. on_given (live_in s c) _ _ (λ R g. on_demand (list_all (false_on s.trail) R) _ _ (λ t. record { to = conflicts c q g t })))
  rule_accepts step.Clash =
      on_without s.conflict _ _ (λ q. on_given (blame (asserted s.trail) (M.answer (asserted s.trail))) _ _ (λ R g. record { to = clashes q g }))
  rule_accepts step.Resolve =
      on_given s.conflict _ _ (λ C q. on_given (latest C s.trail) _ _ (λ at g.
      on_given (explained (theory_blames M) (live_in s) at.0.reason at.0.literal at.1) _ _ (λ R x. record { to = resolves q g x })))
  rule_accepts (step.Jump k c) =
      on_given s.conflict _ _ (λ C q. on_given (only (filter (hit C) (above k s.trail))) _ _ (λ e g.
      on_demand (is_learned c && is_none (live_in s c)) _ _ (λ b.
      let bs = and_parts (is_learned c) (is_none (live_in s c)) b in
      record { to = jumps k c q g bs.0 (none_from_is_none (live_in s c) bs.1) })))
  rule_accepts (step.Forget c) =
      on_given (live_in s c) _ _ (λ R g. on_demand (is_learned c) _ _ (λ b. on_demand (not (is_reason c s.trail)) _ _ (λ n.
      record { to = forgets c g b (not-true (is_reason c s.trail) n) })))
  rule_accepts (step.Fit place) =
      on_without s.conflict _ _ (λ q. on_demand (all_below M.claims (λ i. names (literals s.trail) (2 * i))) _ _ (λ h.
      on_demand (list_all (list_any (true_on s.trail)) s.book) _ _ (λ t. on_demand (is_possible (M.answer (asserted s.trail))) _ _ (λ p.
      on_demand (leb M.terms place) _ _ (λ z. record { to = fits q h t p (leb-true M.terms place z) })))))
  rule_accepts step.NoFit =
      on_given s.conflict _ _ (λ C q. on_demand (is_none (slice_get C 0)) _ _ (λ h. record { to = ends (q ∙ ap Some (empty_from_get C h)) }))

-- a state in which steps may be accepted
pub record Going (s : State) : Type 0 where
  pub verdict : s.verdict ≡ None
  pub some_left : s.count ≢ s.allowance

leads_map : {A : Type 0} {P Q : A → Type 0} (o : Result A Refusal) → ((a : A) → P a → Q a) → Leads P o → Leads Q o
leads_map (Ok a) f h = record { to = f a h.to }
leads_map (Err r) f h = record { to = tt }

pub judge_accepts : (M : Meaning) (s : State) (x : Step) → Leads (λ s'. Going s × Accepted M s x s') (judge M s x)
judge_accepts M s x =
    on_demand (is_none s.verdict) _ _ (λ v. on_demand (not (eqb s.count s.allowance)) _ _ (λ l.
    let g : Going s = record { verdict = none_from_is_none s.verdict v; some_left = eqb-false s.count s.allowance (not-true (eqb s.count s.allowance) l) } in
    leads_map (rule M s x) (λ s' a. (g, a)) (rule_accepts M s x)))

module _ (M : Meaning) (P : State → Type 0) (keeps : (s s' : State) (x : Step) → P s → Going s → Accepted M s x s' → P s') where
  leaves_keeps : (s : State) (x : Step) (o : Outcome) → P s → Leads (λ s'. Going s × Accepted M s x s') o → P (leaves s o)
  leaves_keeps s x (Ok s') p a = keeps s s' x p a.to.0 a.to.1
  leaves_keeps s x (Err r) p a = p

  -- what accepted steps keep, every run keeps
  pub run_keeps : (xs : List Step) (s : State) → P s → P (run M s xs)
  run_keeps [] s p = p
  run_keeps (x ∷ xs) s p = run_keeps xs (after M s x) (leaves_keeps s x (judge M s x) p (judge_accepts M s x))

-- what no step changes, and the count
pub record Next (s s' : State) : Type 0 where
  pub book : s'.book ≡ s.book
  pub allowance : s'.allowance ≡ s.allowance
  pub counted : s'.count ≡ s.count + 1

nexts : (s : State) (learned : List (Option (List ℕ))) (t : List Entry) (C : Option (List ℕ)) (w : Option Verdict) → Next s (next s learned t C w)
nexts s learned t C w = record { book = refl; allowance = refl; counted = refl }

pub accepted_next : {M : Meaning} {s s' : State} {x : Step} → Accepted M s x s' → Next s s'
accepted_next (decides f) = nexts _ _ _ _ _
accepted_next (propagates f q h t) = nexts _ _ _ _ _
accepted_next (implies f p n) = nexts _ _ _ _ _
accepted_next (conflicts c q g t) = nexts _ _ _ _ _
accepted_next (clashes q g) = nexts _ _ _ _ _
accepted_next (resolves q g x) = nexts _ _ _ _ _
accepted_next (jumps k c q g b n) = nexts _ _ _ _ _
accepted_next (forgets c g b n) = nexts _ _ _ _ _
accepted_next (fits q h t p z) = nexts _ _ _ _ _
accepted_next (ends q) = nexts _ _ _ _ _
