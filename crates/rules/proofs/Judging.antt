-- A step is refused by the first cause in its table that holds, and a cause and a move exclude each other. Assumes
-- nothing.
use Rattle.std.proofs.Common.{◌≡◌, ℕ, ◌*◌, ◌<◌, ◌≤◌, ◌≢◌, ◌⊎◌, Bool, true, false, not, ◌&&◌, eqb, ltb, leb, List, [], ◌∷◌, ◌++◌, length, filter, slice_get, is_none, Option, Some, None, Result, Ok, Err, inl, inr, refl, sym, ap, ◌∙◌, subst, ⊎_elim, arith}
use Rattle.std.proofs.lemmas.Bool.{both_ways, and_cases, and_parts, not-true, not-false, ltb-true, ltb-false, leb-true, leb-false, eqb-true, eqb-false}
use Rattle.std.proofs.lemmas.List.Elements.{All-contains}
use Rattle.std.proofs.lemmas.Option.{get_or_from_slice_get, slice_get_within}
use Rattle.std.specs.List.{Contains, list_all, list_any}
use Rattle.theory.specs.Literals.{complement, has, names}
use Rattle.theory.specs.Meaning.{Meaning, Lawful}
use Rattle.rules.specs.declared.entry.Reason.TheVariants.{Decided}
use Rattle.rules.specs.declared.entry.Entry.{Entry}
use Rattle.rules.specs.declared.step.Step.{Step}
use Rattle.rules.specs.declared.step.Step.TheVariants as step
use Rattle.rules.specs.declared.refusal.Refusal.{Refusal}
use Rattle.rules.specs.Clauses.{all_below, only}
use Rattle.rules.specs.States.{State, literals, asserted, Outcome, says}
use Rattle.rules.specs.Moves.{Moves, of_book, learned, SomeTrue, decide, propagate, imply, conflict, clash, resolve, jump, forget, fit, no_fit, ClaimOn, Live, IsLearned, Going, Free, Impossible, Latest, OneAbove, Explained, by_clause, by_theory, denying}
use Rattle.rules.specs.Causes.{Row, row, First, taken, causes, table}
use Rattle.rules.specs.Rules.{true_on, false_on, false_but, above, hit, latest, is_reason, is_learned, live_in, blame, is_possible, theory_blames, explained, demand, given, without, fresh, rule, judge}
use Rattle.rules.specs.Judged.{Answered, JudgedRightly}
use Rattle.rules.proofs.Lists.{contains, contained, has_here, all_below_at, all_below_not, failing}
use Rattle.rules.proofs.Trails.{ground, Grounded}
use Rattle.rules.proofs.Views.{latest_view, latest_found, latest_sound}
use Rattle.rules.proofs.Accepted.{Leads, judge_accepts, none_from_is_none, empty_from_get}
use Rattle.rules.proofs.Invariant.{Facts, number_learned, learned_number, possible_from_is, false_but_has}
use Rattle.rules.proofs.Words.{lacks, claim_on, claim_off, false_all, not_false_all, all_but, not_all_but, none_true, all_some_true, is_reason_from, no_reason, live_from, none_live, live_same, impossible_from, blamed_from, not_blamed}
use Rattle.rules.proofs.Finding.{latest_is, latest_same, one_above, only_above, distinct_sound}
use Rattle.rules.proofs.Moving.{move, move_same}

-- ---- the first cause

-- none of the causes holds
abbrev pub NoneOf : List Row → Type 0
NoneOf [] = Unit {0}
NoneOf (row ∷ rows) = (row.Cause → ⊥) × NoneOf rows

none_first : (rows : List Row) (r : Refusal) → NoneOf rows → First rows r → ⊥
none_first [] r n f = f
none_first (row ∷ rows) r n f = ⊎_elim (λ c. n.0 c.0) (λ c. none_first rows r n.1 c.1) f

first_same : (rows : List Row) (r x : Refusal) → First rows r → First rows x → r ≡ x
first_same [] r x f g = absurd f
first_same (row ∷ rows) r x f g =
    ⊎_elim (λ a. ⊎_elim (λ b. a.1 ∙ sym b.1) (λ b. absurd (b.0 a.0)) g) (λ a. ⊎_elim (λ b. absurd (a.0 b.0)) (λ b. first_same rows r x a.1 b.1) g) f

-- ---- checks, and their rows of the table

-- what is refused is refused by the first cause
pub record Refuses {A : Type 0} (rows : List Row) (o : Result A Refusal) : Type 0 where
  pub first : (r : Refusal) → o ≡ Err r → First rows r

-- a check fails exactly where a cause holds
pub record Tells (b : Bool) (Cause : Type 0) : Type 0 where
  pub fails : b ≡ false → Cause
  pub passes : b ≡ true → Cause → ⊥

pub record Lacks {A : Type 0} (o : Option A) (Cause : Type 0) : Type 0 where
  pub none : o ≡ None → Cause
  pub some : (a : A) → o ≡ Some a → Cause → ⊥

refuses_ok : {A : Type 0} (rows : List Row) (a : A) → Refuses rows (Ok a)
refuses_ok rows a = record { first = λ r q. absurd (cc) }

by_row : {A : Type 0} (Cause : Type 0) (r : Refusal) (rows : List Row) → Cause → Refuses {A = A} (row Cause r ∷ rows) (Err r)
by_row {A} Cause r rows c = record { first = λ x q. let z : x ≡ r = cc in inl (c, z) }

later_row : {A : Type 0} (Cause : Type 0) (r : Refusal) (rows : List Row) (o : Result A Refusal) → (Cause → ⊥) → Refuses rows o → Refuses (row Cause r ∷ rows) o
later_row Cause r rows o n h = record { first = λ x q. inr (n, h.first x q) }

on_demand : {A : Type 0} (Cause : Type 0) (rows : List Row) (b : Bool) (r : Refusal) (o : Result A Refusal) → Tells b Cause → (b ≡ true → Refuses rows o)
    → Refuses (row Cause r ∷ rows) (demand b r o)
on_demand Cause rows true r o t h = later_row Cause r rows o (t.passes refl) (h refl)
on_demand Cause rows false r o t h = by_row Cause r rows (t.fails refl)

on_given : {A B : Type 0} (Cause : Type 0) (rows : List Row) (a : Option A) (r : Refusal) (f : A → Result B Refusal) → Lacks a Cause → ((x : A) → a ≡ Some x → Refuses rows (f x))
    → Refuses (row Cause r ∷ rows) (given a r f)
on_given Cause rows None r f t h = by_row Cause r rows (t.none refl)
on_given Cause rows (Some x) r f t h = later_row Cause r rows (f x) (t.some x refl) (h x refl)

on_without : {A B : Type 0} (a : Option A) (rows : List Row) (r : Refusal) (o : Result B Refusal) → (a ≡ None → Refuses rows o) → Refuses (row (a ≢ None) r ∷ rows) (without a r o)
on_without None rows r o h = later_row _ r rows o (λ n. n refl) (h refl)
on_without (Some x) rows r o h = by_row _ r rows (λ q. absurd (cc))

-- ---- each check tells its cause

tells_not : (b : Bool) (Cause : Type 0) → (b ≡ true → Cause) → (b ≡ false → Cause → ⊥) → Tells (not b) Cause
tells_not b Cause f g = record { fails = λ h. f (not-false b h); passes = λ h. g (not-true b h) }

given_conflict : (s : State) → Lacks s.conflict (s.conflict ≡ None)
given_conflict s = record { none = λ q. q; some = λ C q n. absurd (cc) }

module _ (M : Meaning) (law : Lawful M) (s : State) (F : Facts M s) where
  few : length s.book ≤ 512
  few = F.few_clauses

  given_live : (c : ℕ) → Lacks (live_in s c) ((R : List ℕ) → Live s c R → ⊥)
  given_live c = record { none = none_live s few c; some = λ R q n. n R (live_from s c R q) }

  tells_possible : (ls : List ℕ) → Tells (is_possible (M.answer ls)) (Impossible M ls)
  tells_possible ls = record {
    fails = λ h. impossible_from (M.answer ls) h;
    passes = λ h i. let p = possible_from_is (M.answer ls) h in let q = i.1 in absurd (cc);
  }

  refuses_fresh : {A : Type 0} (l : ℕ) (rows : List Row) (o : Result A Refusal) → Refuses rows o → Refuses (taken M s l ++ rows) (fresh M.claims s l o)
  refuses_fresh l rows o h =
      on_without s.conflict _ _ _ (λ q.
      on_demand _ _ (ltb l (2 * M.claims)) _ _ (record { fails = ltb-false l (2 * M.claims); passes = λ a b. let c = ltb-true l (2 * M.claims) a in omega arith }) (λ a.
      on_demand _ rows (not (names (literals s.trail) l)) _ o (tells_not _ _ (claim_on s.trail l) (claim_off s.trail l)) (λ b. h)))

  -- the latest literal is there in every conflict that is not empty
  pub no_latest : (C : List ℕ) → s.conflict ≡ Some C → latest C s.trail ≡ None → s.conflict ≡ Some []
  no_latest [] q h = q
  no_latest (m ∷ ms) q h =
      let i : has (m ∷ ms) m ≡ true = has_here m ms m refl in
      let f = latest_found (m ∷ ms) m s.trail i ((F.conflict (m ∷ ms) q).falsified m i) in
      let z = f.1 in
      absurd (cc)

  given_latest : (C : List ℕ) → s.conflict ≡ Some C → Lacks (latest C s.trail) (s.conflict ≡ Some [])
  given_latest C q = record { none = no_latest C q; some = λ at h e. let z : C ≡ [] = cc in full at h z }
    where
      full : (at : Entry × List Entry) → latest C s.trail ≡ Some at → C ≡ [] → ⊥
      full at h z =
          let i = contained C (complement at.0.literal) (latest_is C (latest_view C s.trail at h)).hit in
          both_ways false refl (subst (λ (D : List ℕ). has D (complement at.0.literal) ≡ true) z i)

  -- and only a decided one is not explained
  abbrev DecidedLatest : Type 0
  DecidedLatest = (C : List ℕ) × (e : Entry) × (before : List Entry) × (s.conflict ≡ Some C) × Latest C s.trail e before × (e.reason ≡ Decided)

  given_clause : (C : List ℕ) (e : Entry) (t : List Entry) → s.conflict ≡ Some C → latest C s.trail ≡ Some (e, t)
      → Lacks (explained (theory_blames M) (live_in s) e.reason e.literal t) DecidedLatest
  given_clause C e t q h =
      let v = latest_view C s.trail (e, t) h in
      let w = latest_is C v in
      record {
        none = λ n. ⊎_elim (λ d. (C, e, t, q, w, d)) (λ (x : Grounded M (live_in s) e t). let z = x.is in absurd (cc))
            (ground M (live_in s) e t (latest_sound C M (live_in s) v F.trail).0);
        some = λ R x d.
            let p : d.0 ≡ C = let z = d.3 in cc in
            let same = latest_same C s.trail e t d.1 d.2 w (subst (λ (z : List ℕ). Latest z s.trail d.1 d.2) p d.4) in
            let r : e.reason ≡ Decided = ap (λ (z : Entry). z.reason) same.0 ∙ d.5 in
            let z : explained (theory_blames M) (live_in s) Decided e.literal t ≡ Some R = subst (λ r. explained (theory_blames M) (live_in s) r e.literal t ≡ Some R) r x in
            absurd (cc);
      }

  given_one : (k : ℕ) (C : List ℕ) → s.conflict ≡ Some C
      → Lacks (only (filter (hit C) (above k s.trail))) ((D : List ℕ) (m : ℕ) → s.conflict ≡ Some D → OneAbove k D s.trail m → ⊥)
  given_one k C q = record {
    none = λ h D m p o.
        let z : D ≡ C = cc in
        let r = only_above k C s.trail m (distinct_sound M (live_in s) s.trail F.trail) (subst (λ (w : List ℕ). OneAbove k w s.trail m) z o) in
        let y = r.1 in
        absurd (cc);
    some = λ e h n. n C (complement e.literal) q (one_above k C s.trail e h);
  }

  not_learned : (c : ℕ) → is_learned c ≡ false → (c < 512) ⊎ (640 ≤ c)
  not_learned c h = ⊎_elim (λ a. inl (leb-false 512 c a)) (λ a. inr (ltb-false c 640 a)) (and_cases (leb 512 c) (ltb c 640) h)

  tells_free : (c : ℕ) → Tells (is_learned c && is_none (live_in s c)) ((¬ IsLearned c) ⊎ ((R : List ℕ) × Live s c R))
  tells_free c = record {
    fails = λ h. ⊎_elim (λ a. inl (λ n. both_ways (is_learned c) a (number_learned c n.from n.below))) (λ a. inr (some (live_in s c) refl a)) (and_cases (is_learned c) (is_none (live_in s c)) h);
    passes = λ h.
        let b = and_parts (is_learned c) (is_none (live_in s c)) h in
        let n = learned_number c b.0 in
        ⊎_elim (λ a. a (record { from = n.0; below = n.1 })) (λ a. none_live s few c (none_from_is_none (live_in s c) b.1) a.0 a.1);
  }
    where
      some : (o : Option (List ℕ)) → live_in s c ≡ o → is_none o ≡ false → (R : List ℕ) × Live s c R
      some None q h = absurd (both_ways true h refl)
      some (Some R) q h = (R, live_from s c R q)

  -- a live clause that is not learned is of the book
  tells_learned : (c : ℕ) (R : List ℕ) → live_in s c ≡ Some R → Tells (is_learned c) (c < 512)
  tells_learned c R q = record {
    fails = λ h. ⊎_elim (λ a. a) (λ a. absurd (go a (live_from s c R q))) (not_learned c h);
    passes = λ h a. let n = learned_number c h in omega (arith, n.0);
  }
    where
      go : 640 ≤ c → Live s c R → ⊥
      go a (of_book h) = let z = slice_get_within s.book c R h in omega (arith, few)
      go a (learned p e h) = let z = slice_get_within s.learned p (Some R) h in omega (arith, F.slots)

  full_tells : Tells (all_below M.claims (λ i. names (literals s.trail) (2 * i))) ((i : ℕ) × (i < M.claims) × (ClaimOn s.trail (2 * i) → ⊥))
  full_tells = record {
    fails = λ h. let r = all_below_not M.claims (λ i. names (literals s.trail) (2 * i)) h in (r.0, r.1, claim_off s.trail (2 * r.0) r.2);
    passes = λ h c. c.2 (claim_on s.trail (2 * c.0) (all_below_at M.claims (λ i. names (literals s.trail) (2 * i)) h c.0 c.1));
  }

  book_tells : Tells (list_all (list_any (true_on s.trail)) s.book) ((R : List ℕ) × Contains s.book R × (SomeTrue s.trail R → ⊥))
  book_tells = record {
    fails = λ h.
        let r = failing (list_any (true_on s.trail)) s.book h in
        (r.2, (r.0, r.1, get_or_from_slice_get s.book r.0 r.2 r.2 r.3), none_true s.trail r.2 r.4);
    passes = λ h c. c.2 (All-contains (SomeTrue s.trail) s.book c.0 (all_some_true s.trail s.book h) c.1);
  }

  rule_refuses : (x : Step) → Refuses (causes M s x) (rule M s x)
  rule_refuses (step.Decide l) = refuses_fresh l [] _ (refuses_ok [] _)
  rule_refuses (step.Propagate c l) =
      refuses_fresh l _ _ (on_given _ _ (live_in s c) _ _ (given_live c) (λ R q.
      on_demand _ _ (has R l) _ _ (record {
        fails = λ h. (R, live_from s c R q, lacks R l h);
        passes = λ h n. n.2 (subst (λ (z : List ℕ). Contains z l) (live_same s few c R n.0 (live_from s c R q) n.1) (contains R l h));
      }) (λ h.
      on_demand _ _ (false_but s.trail l R) _ _ (record {
        fails = λ t. let r = not_all_but s.trail l R t in (R, r.0, live_from s c R q, r.1, r.2, r.3);
        passes = λ t n. n.5 (all_but s.trail l R (false_but_has s.trail l R t) n.1 (subst (λ (z : List ℕ). Contains z n.1) (live_same s few c n.0 R n.2 (live_from s c R q)) n.3) n.4);
      }) (λ t. refuses_ok [] _))))
  rule_refuses (step.Imply l) =
      refuses_fresh l _ _ (on_demand _ _ (is_possible (M.answer (asserted s.trail))) _ _ (tells_possible (asserted s.trail)) (λ p.
      on_demand _ _ (not (is_possible (M.answer (denying s.trail l)))) _ _
      (tells_not _ _ (possible_from_is (M.answer (denying s.trail l))) (λ h q. let i = (tells_possible (denying s.trail l)).fails h in let z = i.1 in absurd (cc)))
      (λ n. refuses_ok [] _)))
  rule_refuses (step.Conflict c) =
      on_without s.conflict _ _ _ (λ q. on_given _ _ (live_in s c) _ _ (given_live c) (λ R h.
      on_demand _ _ (list_all (false_on s.trail) R) _ _ (record {
        fails = λ t. let r = not_false_all s.trail R t in (R, r.0, live_from s c R h, r.1, r.2);
        passes = λ t n. n.4 (false_all s.trail R t n.1 (subst (λ (z : List ℕ). Contains z n.1) (live_same s few c n.0 R n.2 (live_from s c R h)) n.3));
      }) (λ t. refuses_ok [] _)))
  rule_refuses step.Clash =
      let ls : List ℕ = asserted s.trail in
      on_without s.conflict _ _ _ (λ q. on_given _ _ (blame ls (M.answer ls)) _ _ (record {
        none = not_blamed ls (M.answer ls);
        some = λ R h p. let b = blamed_from ls (M.answer ls) R h in let z = b.1 in absurd (cc);
      }) (λ R h. refuses_ok [] _))
  rule_refuses step.Resolve =
      on_given _ _ s.conflict _ _ (given_conflict s) (λ C q. on_given _ _ (latest C s.trail) _ _ (given_latest C q) (λ at h.
      on_given _ _ (explained (theory_blames M) (live_in s) at.0.reason at.0.literal at.1) _ _ (given_clause C at.0 at.1 q h) (λ R x. refuses_ok [] _)))
  rule_refuses (step.Jump k c) =
      on_given _ _ s.conflict _ _ (given_conflict s) (λ C q. on_given _ _ (only (filter (hit C) (above k s.trail))) _ _ (given_one k C q) (λ e h.
      on_demand _ _ (is_learned c && is_none (live_in s c)) _ _ (tells_free c) (λ b. refuses_ok [] _)))
  rule_refuses (step.Forget c) =
      on_given _ _ (live_in s c) _ _ (given_live c) (λ R q. on_demand _ _ (is_learned c) _ _ (tells_learned c R q) (λ b.
      on_demand _ _ (not (is_reason c s.trail)) _ _ (tells_not _ _ (is_reason_from c s.trail) (no_reason c s.trail)) (λ n. refuses_ok [] _)))
  rule_refuses (step.Fit len) =
      on_without s.conflict _ _ _ (λ q. on_demand _ _ (all_below M.claims (λ i. names (literals s.trail) (2 * i))) _ _ full_tells (λ h.
      on_demand _ _ (list_all (list_any (true_on s.trail)) s.book) _ _ book_tells (λ t.
      on_demand _ _ (is_possible (M.answer (asserted s.trail))) _ _ (tells_possible (asserted s.trail)) (λ p.
      on_demand _ _ (leb M.terms len) _ _ (record { fails = leb-false M.terms len; passes = λ z n. let y = leb-true M.terms len z in omega arith }) (λ z. refuses_ok [] _)))))
  rule_refuses step.NoFit =
      on_given _ _ s.conflict _ _ (given_conflict s) (λ C q. on_demand _ _ (is_none (slice_get C 0)) _ _ (record {
        fails = λ h. (C, q, λ e. both_ways (is_none (slice_get C 0)) h (ap (λ (z : List ℕ). is_none (slice_get z 0)) e));
        passes = λ h n. let p : C ≡ n.0 = let z = n.1 in cc in n.2 (sym p ∙ empty_from_get C h);
      }) (λ h. refuses_ok [] _))

  judge_refuses : (x : Step) → Refuses (table M s x) (judge M s x)
  judge_refuses x =
      on_demand _ _ (is_none s.verdict) _ _ (record {
        fails = λ h v. both_ways (is_none s.verdict) h (ap is_none v);
        passes = λ h n. n (none_from_is_none s.verdict h);
      }) (λ v. on_demand _ _ (not (eqb s.count s.allowance)) _ _ (tells_not _ _ (eqb-true s.count s.allowance) (eqb-false s.count s.allowance)) (λ l. rule_refuses x))

  -- ---- a move excludes each cause

  over_none : (x : Step) → Going s → NoneOf (causes M s x) → NoneOf (table M s x)
  over_none x g n = (λ v. v g.no_verdict, (λ e. let h = g.left in omega arith, n))

  free_none : (l : ℕ) → Free M s l → (s.conflict ≢ None → ⊥) × (2 * M.claims ≤ l → ⊥) × (ClaimOn s.trail l → ⊥)
  free_none l f = (λ q. q f.no_conflict, λ h. let z = f.of_claims in omega arith, f.off_trail)

  move_none : {x : Step} {s' : State} → Moves M s x s' → NoneOf (table M s x)
  move_none (decide {l = l} g f) = let t = free_none l f in over_none (step.Decide l) g (t.0, (t.1, (t.2, tt)))
  move_none (propagate {c = c} {l = l} {R = R} g f h i j) =
      let t = free_none l f in
      over_none (step.Propagate c l) g (
        t.0,
        (
          t.1,
          (
            t.2,
            (
              λ n. n R h,
              (
                λ n. n.2 (subst (λ (z : List ℕ). Contains z l) (live_same s few c R n.0 h n.1) i),
                (λ n. n.5 (j n.1 (subst (λ (z : List ℕ). Contains z n.1) (live_same s few c n.0 R n.2 h) n.3) n.4), tt),
              ),
            ),
          ),
        ),
      )
  move_none (imply {l = l} g f p n) =
      let t = free_none l f in
      over_none (step.Imply l) g (t.0, (t.1, (t.2, (λ i. let z = i.1 in absurd (cc), (λ q. let z = n.1 in absurd (cc), tt)))))
  move_none (conflict {c = c} {R = R} g q h f x) =
      over_none (step.Conflict c) g (λ n. n q, (λ n. n R h, (λ n. n.4 (f n.1 (subst (λ (z : List ℕ). Contains z n.1) (live_same s few c n.0 R n.2 h) n.3)), tt)))
  move_none (clash g q a x) = over_none step.Clash g (λ n. n q, (λ p. absurd (cc), tt))
  move_none (resolve {C = C} {e = e} {before = b} g q v w x) =
      over_none step.Resolve g (
        λ n. absurd (cc),
        (
          λ n. empty n v.hit,
          (
            λ d.
                let p : d.0 ≡ C = let z = d.3 in cc in
                let same = latest_same C s.trail e b d.1 d.2 v (subst (λ (z : List ℕ). Latest z s.trail d.1 d.2) p d.4) in
                follows (ap (λ (z : Entry). z.reason) same.0 ∙ d.5) w,
            tt,
          ),
        ),
      )
    where
      empty : s.conflict ≡ Some [] → Contains C (complement e.literal) → ⊥
      empty n h = let z : C ≡ [] = cc in both_ways false refl (subst (λ (D : List ℕ). has D (complement e.literal) ≡ true) z (contained C (complement e.literal) h))

      follows : e.reason ≡ Decided → {R : List ℕ} → Explained M s e b R → ⊥
      follows d (by_clause c r h) = cc
      follows d (by_theory core r h is) = cc
  move_none (jump {k = k} {c = c} {l = l} {C = C} g q o i n x) =
      over_none (step.Jump k c) g (λ z. absurd (cc), (λ z. z C l q o, (⊎_elim (λ a. a i) (λ a. n a.0 a.1), tt)))
  move_none (forget {c = c} {R = R} g h i n) = over_none (step.Forget c) g (λ z. z R h, (λ a. let y = i.from in omega arith, (n, tt)))
  move_none (fit {len = len} g q a t p z) =
      over_none (step.Fit len) g (λ n. n q, (λ c. c.2 (a c.0 c.1), (λ c. c.2 (All-contains (SomeTrue s.trail) s.book c.0 t c.1), (λ i. let y = i.1 in absurd (cc), (λ n. omega arith, tt)))))
  move_none (no_fit g q) = over_none step.NoFit g (λ n. absurd (cc), (λ n. let y = n.1 in n.2 (cc), tt))

-- ---- put together

outcome_cases : (o : Outcome) → ((s' : State) × (o ≡ Ok s')) ⊎ ((r : Refusal) × (o ≡ Err r))
outcome_cases (Ok s') = inl (s', refl)
outcome_cases (Err r) = inr (r, refl)

led : {A : Type 0} {P : A → Type 0} (o : Result A Refusal) (a : A) → Leads P o → o ≡ Ok a → P a
led {A} {P} (Ok b) a h q = let e : b ≡ a = cc in subst P e h.to
led (Err r) a h q = absurd (cc)

module _ (M : Meaning) (law : Lawful M) (s : State) (F : Facts M s) (x : Step) where
  pub judged_move : (s' : State) → judge M s x ≡ Ok s' → Moves M s x s'
  judged_move s' q = let a = led (judge M s x) s' (judge_accepts M s x) q in move M law s F a.0 a.1

  pub move_judged : (s' : State) → Moves M s x s' → judge M s x ≡ Ok s'
  move_judged s' m =
      ⊎_elim (λ o. o.1 ∙ ap Ok (move_same M s F.few_clauses (judged_move o.0 o.1) m))
      (λ o. absurd (none_first (table M s x) o.0 (move_none M law s F m) ((judge_refuses M law s F x).first o.0 o.1)))
      (outcome_cases (judge M s x))

  first_judged : (r : Refusal) → First (table M s x) r → judge M s x ≡ Err r
  first_judged r f =
      ⊎_elim (λ o. absurd (none_first (table M s x) r (move_none M law s F (judged_move o.0 o.1)) f))
      (λ o. o.1 ∙ ap Err (first_same (table M s x) o.0 r ((judge_refuses M law s F x).first o.0 o.1) f))
      (outcome_cases (judge M s x))

  answered : (o : Outcome) → judge M s x ≡ o → Answered M s x (says o)
  answered (Ok s') q = (s', judged_move s' q, refl)
  answered (Err r) q = (judge_refuses M law s F x).first r q

  pub judged_rightly : JudgedRightly M s x
  judged_rightly = record {
    accepted = λ s'. (judged_move s', move_judged s');
    refused = λ r. ((judge_refuses M law s F x).first r, first_judged r);
    answered = answered (judge M s x) refl;
  }
