-- What the functions of the rules find on a trail, as relations: the latest literal of a conflict, and a cut at a
-- level.
-- Assumes nothing.
use Rattle.std.proofs.Common.{◌≡◌, ℕ, ◌+◌, ◌-◌, ◌<◌, ◌≤◌, Bool, true, false, ◌||◌, cond, ltb, leb, ◌≢◌, ◌⊎◌, List, [], ◌∷◌, length, set, filter, slice_get, get_or, Option, Some, None, is_some, inl, inr, refl, sym, ap, ◌∙◌, subst, ⊎_elim, arith}
use Rattle.std.proofs.lemmas.Bool.{both_ways, cases_eq, or_parts, or_from, false_from_ne_true, eqb-false, ne_eqb, leb-true, leb-false, ltb-false, le-ltb, le-leb}
use Rattle.std.proofs.lemmas.List.{get_or-set_same, get_or-set_other}
use Rattle.theory.specs.Literals.{complement, has, Proper}
use Rattle.theory.specs.Meaning.{Meaning}
use Rattle.rules.specs.declared.entry.Reason.{Reason}
use Rattle.rules.specs.declared.entry.Reason.TheVariants.{Decided, Clause, Theory}
use Rattle.rules.specs.declared.entry.Entry.{Entry}
use Rattle.rules.specs.Clauses.{only}
use Rattle.rules.specs.States.{literals, asserted, decisions, level}
use Rattle.rules.specs.Rules.{false_on, up_to, above, hit, latest, is_clause, is_reason, live, theory_blames, explained}
use Rattle.rules.proofs.Lists.{has_here, has_later, has_cases}
use Rattle.rules.proofs.Trails.{not_named, not_denied, Takes, latest_goes, proper_before, Grounded, SoundTrail, ground}

-- ---- the latest literal of a conflict

-- `e` is the latest entry whose complement is in `C`, and `r` the trail before it
pub data Finds (C : List ℕ) : List Entry → Entry → List Entry → Type 0 where
  here : {e : Entry} {t : List Entry} → hit C e ≡ true → Finds C (e ∷ t) e t
  there : {d e : Entry} {t r : List Entry} → hit C d ≡ false → Finds C t e r → Finds C (d ∷ t) e r

module _ (C : List ℕ) where
  latest_go : (d : Entry) (t : List Entry) (a : Entry × List Entry) (b : Bool) → hit C d ≡ b → cond b (Some (d, t)) (latest C t) ≡ Some a
      → (latest C t ≡ Some a → Finds C t a.0 a.1) → Finds C (d ∷ t) a.0 a.1
  latest_go d t a true q h rest =
      let e : (d, t) ≡ a = cc in
      subst (λ (z : Entry × List Entry). Finds C (d ∷ t) z.0 z.1) e (here q)
  latest_go d t a false q h rest = there q (rest h)

  pub latest_view : (t : List Entry) (a : Entry × List Entry) → latest C t ≡ Some a → Finds C t a.0 a.1
  latest_view [] a h = cc
  latest_view (d ∷ t) a h = latest_go d t a (hit C d) refl h (latest_view t a)

  pub latest_before : {t r : List Entry} {e : Entry} → Finds C t e r → (x : ℕ) → has (literals r) x ≡ true → has (literals t) x ≡ true
  latest_before (here {e = e} {t = t} h) x i = has_later e.literal (literals t) x i
  latest_before (there {d = d} {t = t} n v) x i = has_later d.literal (literals t) x (latest_before v x i)

  pub latest_sound : (M : Meaning) (clause_at : ℕ → Option (List ℕ)) {t r : List Entry} {e : Entry} → Finds C t e r → SoundTrail M clause_at t → SoundTrail M clause_at (e ∷ r)
  latest_sound M clause_at (here h) k = k
  latest_sound M clause_at (there n v) k = latest_sound M clause_at v k.1

-- where a literal of the conflict is false on the trail, there is a latest
pub latest_found : (C : List ℕ) (m : ℕ) (t : List Entry) → has C m ≡ true → false_on t m ≡ true → (at : Entry × List Entry) × (latest C t ≡ Some at)
latest_found C m [] i j = absurd (both_ways false refl j)
latest_found C m (e ∷ t) i j =
    go (hit C e) refl
    (⊎_elim (λ (q : e.literal ≡ complement m). inl (let z : m ≡ complement e.literal = omega arith in subst (λ x. has C x ≡ true) z i))
    (λ k. inr (latest_found C m t i k)) (has_cases e.literal (literals t) (complement m) j))
  where
    go : (b : Bool) → hit C e ≡ b → (hit C e ≡ true) ⊎ ((at : Entry × List Entry) × (latest C t ≡ Some at))
        → (at : Entry × List Entry) × (cond b (Some (e, t)) (latest C t) ≡ Some at)
    go true q r = ((e, t), refl)
    go false q (inl h) = absurd (both_ways (hit C e) q h)
    go false q (inr r) = r

-- ---- a cut

-- `t` is cut at level `k`: `u` is cut off, and `r` is left
pub data Cuts (k : ℕ) : List Entry → List Entry → List Entry → Type 0 where
  stop : {t : List Entry} → level t ≤ k → Cuts k t [] t
  more : {e : Entry} {t u r : List Entry} → k < level (e ∷ t) → Cuts k t u r → Cuts k (e ∷ t) (e ∷ u) r

-- an entry whose level is above that of the trail before it is decided
pub decided_since : (r : Reason) (k a : ℕ) → k < decisions r + a → a ≤ k → r ≡ Decided
decided_since Decided k a h g = refl
decided_since (Clause c) k a h g = absurd (omega arith)
decided_since Theory k a h g = absurd (omega arith)

module _ (k : ℕ) where
  cut_go : (e : Entry) (t : List Entry) (b : Bool) → leb (level (e ∷ t)) k ≡ b → Cuts k t (above k t) (up_to k t)
      → Cuts k (e ∷ t) (cond b [] (e ∷ above k t)) (cond b (e ∷ t) (up_to k t))
  cut_go e t true q v = stop (leb-true (level (e ∷ t)) k q)
  cut_go e t false q v = more (leb-false (level (e ∷ t)) k q) v

  pub cut_view : (t : List Entry) → Cuts k t (above k t) (up_to k t)
  cut_view [] = stop (omega arith)
  cut_view (e ∷ t) = cut_go e t (leb (level (e ∷ t)) k) refl (cut_view t)

  pub cut_sound : (M : Meaning) (clause_at : ℕ → Option (List ℕ)) {t u r : List Entry} → Cuts k t u r → SoundTrail M clause_at t → SoundTrail M clause_at r
  cut_sound M clause_at (stop h) s = s
  cut_sound M clause_at (more h v) s = cut_sound M clause_at v s.1

  pub cut_has : {t u r : List Entry} → Cuts k t u r → (x : ℕ) → has (literals t) x ≡ true → (has (literals u) x ≡ true) ⊎ (has (literals r) x ≡ true)
  cut_has (stop h) x i = inr i
  cut_has (more {e = e} {t = t} {u = u} h v) x i =
      ⊎_elim (λ q. inl (has_here e.literal (literals u) x q))
      (λ j. ⊎_elim (λ q. inl (has_later e.literal (literals u) x q)) (λ q. inr q) (cut_has v x j)) (has_cases e.literal (literals t) x i)

  cut_kept : {t u r : List Entry} → Cuts k t u r → (x : ℕ) → has (literals r) x ≡ true → has (literals t) x ≡ true
  cut_kept (stop h) x i = i
  cut_kept (more {e = e} {t = t} h v) x i = has_later e.literal (literals t) x (cut_kept v x i)

  -- what is left takes each literal that is cut off
  pub cut_takes : (n : ℕ) {t u r : List Entry} → Cuts k t u r → Proper n (asserted t) → (x : ℕ) → has (literals u) x ≡ true → Takes n r x
  cut_takes n (stop h) p x i = absurd (both_ways false refl i)
  cut_takes n (more {e = e} {t = t} {u = u} {r = r} h v) p x i =
      ⊎_elim
      (λ (q : e.literal ≡ x). let m = latest_goes n e t p in subst (Takes n r) q (record {
        below = m.below;
        off = or_from (has (literals r) e.literal) (has (literals r) (complement e.literal))
            (false_from_ne_true (has (literals r) e.literal) (λ j. not_named (literals t) e.literal m.off (cut_kept v e.literal j)))
            (false_from_ne_true (has (literals r) (complement e.literal)) (λ j. not_denied (literals t) e.literal m.off (cut_kept v (complement e.literal) j)));
      }))
      (λ j. cut_takes n v (proper_before n e t p) x j)
      (has_cases e.literal (literals u) x i)

pub above_none : (k : ℕ) (t : List Entry) → level t ≤ k → above k t ≡ []
above_none k [] h = refl
above_none k (e ∷ t) h = rw (le-leb (level (e ∷ t)) k h)

-- ---- the one entry that a test keeps

module _ (C : List ℕ) where
  pub kept_has : (u : List Entry) (x : ℕ) → has (literals (filter (hit C) u)) x ≡ true → (has (literals u) x ≡ true) × (has C (complement x) ≡ true)
  kept_has [] x i = absurd (both_ways false refl i)
  kept_has (e ∷ u) x i = go (hit C e) refl (kept_has u x) i
    where
      go : (b : Bool) → hit C e ≡ b → (has (literals (filter (hit C) u)) x ≡ true → (has (literals u) x ≡ true) × (has C (complement x) ≡ true))
          → has (literals (cond b (e ∷ filter (hit C) u) (filter (hit C) u))) x ≡ true → (has (literals (e ∷ u)) x ≡ true) × (has C (complement x) ≡ true)
      go true q rest i =
          ⊎_elim (λ (z : e.literal ≡ x). (has_here e.literal (literals u) x z, subst (λ y. has C (complement y) ≡ true) z q))
          (λ j. let r = rest j in (has_later e.literal (literals u) x r.0, r.1))
          (has_cases e.literal (literals (filter (hit C) u)) x i)
      go false q rest i = let r = rest i in (has_later e.literal (literals u) x r.0, r.1)

  pub has_kept : (u : List Entry) (x : ℕ) → has (literals u) x ≡ true → has C (complement x) ≡ true → has (literals (filter (hit C) u)) x ≡ true
  has_kept [] x i h = absurd (both_ways false refl i)
  has_kept (e ∷ u) x i h = go (hit C e) refl (⊎_elim (λ z. inl z) (λ j. inr (has_kept u x j h)) (has_cases e.literal (literals u) x i))
    where
      go : (b : Bool) → hit C e ≡ b → (e.literal ≡ x) ⊎ (has (literals (filter (hit C) u)) x ≡ true)
          → has (literals (cond b (e ∷ filter (hit C) u) (filter (hit C) u))) x ≡ true
      go true q (inl z) = has_here e.literal (literals (filter (hit C) u)) x z
      go true q (inr j) = has_later e.literal (literals (filter (hit C) u)) x j
      go false q (inl z) = absurd (both_ways (hit C e) q (subst (λ y. has C (complement y) ≡ true) (sym z) h))
      go false q (inr j) = j

  only_one : (es : List Entry) (e : Entry) → only es ≡ Some e → es ≡ e ∷ []
  only_one [] e h = cc
  only_one (d ∷ []) e h = cc
  only_one (d ∷ c ∷ ds) e h = cc

  pub record OneHit (u : List Entry) (e : Entry) : Type 0 where
    pub on : has (literals u) e.literal ≡ true
    pub hits : has C (complement e.literal) ≡ true
    pub others : (x : ℕ) → has (literals u) x ≡ true → has C (complement x) ≡ true → x ≡ e.literal

  pub only_view : (u : List Entry) (e : Entry) → only (filter (hit C) u) ≡ Some e → OneHit u e
  only_view u e h =
      let q = only_one (filter (hit C) u) e h in
      let r = kept_has u e.literal (subst (λ es. has (literals es) e.literal ≡ true) (sym q) (has_here e.literal [] e.literal refl)) in
      record {
        on = r.0;
        hits = r.1;
        others = λ x i k. ⊎_elim (λ p. sym p) (λ b. absurd (both_ways false refl b))
            (has_cases e.literal [] x (subst (λ es. has (literals es) x ≡ true) q (has_kept u x i k)));
      }

-- where the test keeps one, something is cut off
not_empty : (u : List Entry) (x : ℕ) → has (literals u) x ≡ true → (d : Entry) × (w : List Entry) × (u ≡ d ∷ w)
not_empty [] x i = absurd (both_ways false refl i)
not_empty (d ∷ u) x i = (d, u, refl)

pub cut_above : (k : ℕ) (C : List ℕ) (t : List Entry) (e : Entry) → only (filter (hit C) (above k t)) ≡ Some e
    → (d : Entry) × (u : List Entry) × Cuts k t (d ∷ u) (up_to k t)
cut_above k C t e g =
    let r = not_empty (above k t) e.literal (only_view C (above k t) e g).on in
    (r.0, r.1, subst (λ (u : List Entry). Cuts k t u (up_to k t)) r.2 (cut_view k t))

-- ---- a change of one learned clause

module _ (book : List (List ℕ)) (learned : List (Option (List ℕ))) (c : ℕ) (low : 512 ≤ c) (high : c < 640) (slots : length learned ≡ 128) (v : Option (List ℕ)) where
  pub live_set_same : live book (set learned (c - 512) v) c ≡ v
  live_set_same = rw (le-ltb c 512 low) (get_or-set_same learned (c - 512) v None (omega arith))

  pub live_set_other : (d : ℕ) → d ≢ c → live book (set learned (c - 512) v) d ≡ live book learned d
  live_set_other d n = go (ltb d 512) refl
    where
      go : (b : Bool) → ltb d 512 ≡ b → cond b (slice_get book d) (get_or (set learned (c - 512) v) (d - 512) None) ≡ cond b (slice_get book d) (get_or learned (d - 512) None)
      go true q = refl
      go false q =
          let h : 512 ≤ d = ltb-false d 512 q in
          get_or-set_other learned (c - 512) (d - 512) v None (λ k. n (omega arith))

module _ (M : Meaning) (clause_at clause_at' : ℕ → Option (List ℕ)) (c : ℕ) (same : (d : ℕ) → d ≢ c → clause_at' d ≡ clause_at d) where
  explained_same : (r : Reason) (l : ℕ) (t : List Entry) → is_clause c r ≡ false
      → explained (theory_blames M) clause_at' r l t ≡ explained (theory_blames M) clause_at r l t
  explained_same Decided l t h = refl
  explained_same (Clause d) l t h = same d (eqb-false d c h)
  explained_same Theory l t h = refl

  -- a trail stays in order where the clause is no reason
  pub trail_moved : (t : List Entry) → is_reason c t ≡ false → SoundTrail M clause_at t → SoundTrail M clause_at' t
  trail_moved [] h k = tt
  trail_moved (e ∷ t) h k =
      let b = or_parts (is_clause c e.reason) (is_reason c t) h in
      let q = explained_same e.reason e.literal t b.0 in (
        record { below = k.0.below; fresh = k.0.fresh; follows = λ n. ap is_some q ∙ k.0.follows n; grounds = λ R g. k.0.grounds R (sym q ∙ g) },
        trail_moved t b.1 k.1,
      )

-- a clause that is not live is no reason
pub not_live : (M : Meaning) (clause_at : ℕ → Option (List ℕ)) (c : ℕ) → clause_at c ≡ None → (t : List Entry) → SoundTrail M clause_at t → is_reason c t ≡ false
not_live M clause_at c n [] k = refl
not_live M clause_at c n (e ∷ t) k = go e.reason refl (not_live M clause_at c n t k.1)
  where
    go : (r : Reason) → e.reason ≡ r → is_reason c t ≡ false → (is_clause c r || is_reason c t) ≡ false
    go Decided q rest = rest
    go Theory q rest = rest
    go (Clause d) q rest =
        ⊎_elim (λ (p : d ≡ c).
        ⊎_elim (λ (g : e.reason ≡ Decided). cc)
        (λ (x : Grounded M clause_at e t).
        let s : explained (theory_blames M) clause_at (Clause d) e.literal t ≡ Some x.by = subst (λ w. explained (theory_blames M) clause_at w e.literal t ≡ Some x.by) q x.is in
        cc)
        (ground M clause_at e t k.0))
        (λ (p : d ≢ c). rw (ne_eqb d c p) rest) (cases_eq d c)
