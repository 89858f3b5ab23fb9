-- What the functions of the rules find is what the words of the rules say: the latest literal of a conflict, its one
-- literal
-- above a level, and a cut. Assumes nothing.
use Rattle.std.proofs.Common.{◌≡◌, ℕ, ◌<◌, ◌≤◌, Bool, true, false, cond, leb, List, [], ◌∷◌, length, filter, Option, Some, refl, sym, ap, ◌∙◌, subst, ⊎_elim, arith}
use Rattle.std.proofs.lemmas.Bool.{both_ways, or_parts, leb-false, lt-leb, false_from_ne_true}
use Rattle.theory.specs.Literals.{complement, has}
use Rattle.theory.specs.Meaning.{Meaning}
use Rattle.rules.specs.declared.entry.Reason.TheVariants.{Decided}
use Rattle.rules.specs.declared.entry.Entry.{Entry}
use Rattle.rules.specs.Clauses.{only}
use Rattle.rules.specs.States.{State, literals, decisions, level}
use Rattle.rules.specs.Moves.{At, Cut, Latest, OneAbove, Live, Explained, by_clause, by_theory, denying, blamed}
use Rattle.rules.specs.Rules.{above, hit}
use Rattle.rules.proofs.Lists.{contains, contained, has_here, has_later, has_cases}
use Rattle.rules.proofs.Trails.{twice, SoundTrail}
use Rattle.rules.proofs.Views.{Finds, here, there, Cuts, stop, more, decided_since, kept_has, has_kept, only_view}
use Rattle.rules.proofs.Words.{lacks, at_here, at_later, at_none, at_cases, at_compare, at_shorter, at_level, live_same}

-- ---- the latest literal of a conflict

pub latest_is : (C : List ℕ) {t : List Entry} {e : Entry} {b : List Entry} → Finds C t e b → Latest C t e b
latest_is C (here {e = e} {t = t} h) = record {
  there = at_here e t;
  hit = contains C (complement e.literal) h;
  highest = λ d c a i. ⊎_elim (λ (q : (e ≡ d) × (t ≡ c)). let z = ap length q.1 in omega (arith, z)) (λ x. omega (arith, at_shorter t d c x)) (at_cases e t d c a);
}
latest_is C (there {d = f} {e = e} {t = t} {r = b} n v) =
    let r = latest_is C v in
    record {
      there = at_later f t e b r.there;
      hit = r.hit;
      highest = λ d c a i. ⊎_elim (λ (q : (f ≡ d) × (t ≡ c)). absurd (lacks C (complement d.literal) (ap (hit C) (sym q.0) ∙ n) i)) (λ x. r.highest d c x i) (at_cases f t d c a);
    }

pub latest_same : (C : List ℕ) (t : List Entry) (e : Entry) (b : List Entry) (d : Entry) (c : List Entry) → Latest C t e b → Latest C t d c → (e ≡ d) × (b ≡ c)
latest_same C t e b d c x y =
    let low = x.highest d c y.there y.hit in
    let high = y.highest e b x.there x.hit in
    ⊎_elim (λ p. p)
    (λ q. absurd (⊎_elim (λ r. let z = at_shorter b d c r in omega arith) (λ r. let z = at_shorter c e b r in omega arith) q))
    (at_compare t e b d c x.there y.there)

-- ---- what a level has above it

above_at : (k : ℕ) (t : List Entry) (x : ℕ) → has (literals (above k t)) x ≡ true → (e : Entry) × (b : List Entry) × At t e b × (e.literal ≡ x) × (k < level (e ∷ b))
above_at k [] x h = absurd (both_ways false refl h)
above_at k (d ∷ t) x h = go (leb (level (d ∷ t)) k) refl h (above_at k t x)
  where
    go : (b : Bool) → leb (level (d ∷ t)) k ≡ b → has (literals (cond b [] (d ∷ above k t))) x ≡ true
        → (has (literals (above k t)) x ≡ true → (e : Entry) × (b : List Entry) × At t e b × (e.literal ≡ x) × (k < level (e ∷ b)))
        → (e : Entry) × (b : List Entry) × At (d ∷ t) e b × (e.literal ≡ x) × (k < level (e ∷ b))
    go true q h rest = absurd (both_ways false refl h)
    go false q h rest =
        ⊎_elim (λ (z : d.literal ≡ x). (d, t, at_here d t, z, leb-false (level (d ∷ t)) k q))
        (λ j. let r = rest j in (r.0, r.1, at_later d t r.0 r.1 r.2, r.3, r.4)) (has_cases d.literal (literals (above k t)) x h)

at_above : (k : ℕ) (t : List Entry) (e : Entry) (b : List Entry) → At t e b → k < level (e ∷ b) → has (literals (above k t)) e.literal ≡ true
at_above k [] e b a h = absurd (at_none e b a)
at_above k (d ∷ t) e b a h =
    let z = at_level (d ∷ t) e b a in
    let q : leb (level (d ∷ t)) k ≡ false = lt-leb (level (d ∷ t)) k (omega (arith, z)) in
    subst (λ (w : Bool). has (literals (cond w [] (d ∷ above k t))) e.literal ≡ true) (sym q)
    (⊎_elim (λ (p : (d ≡ e) × (t ≡ b)). has_here d.literal (literals (above k t)) e.literal (ap (λ (w : Entry). w.literal) p.0))
    (λ x. has_later d.literal (literals (above k t)) e.literal (at_above k t e b x h)) (at_cases d t e b a))

-- no literal twice
abbrev pub Distinct : List Entry → Type 0
Distinct [] = Unit {0}
Distinct (e ∷ t) = (has (literals t) e.literal ≡ false) × Distinct t

pub distinct_sound : (M : Meaning) (clause_at : ℕ → Option (List ℕ)) (t : List Entry) → SoundTrail M clause_at t → Distinct t
distinct_sound M clause_at [] k = tt
distinct_sound M clause_at (e ∷ t) k =
    ((or_parts (has (literals t) e.literal) (has (literals t) (complement e.literal)) k.0.fresh).0, distinct_sound M clause_at t k.1)

above_on : (k : ℕ) (t : List Entry) (x : ℕ) → has (literals (above k t)) x ≡ true → has (literals t) x ≡ true
above_on k [] x h = h
above_on k (d ∷ t) x h = go (leb (level (d ∷ t)) k) h (above_on k t x)
  where
    go : (b : Bool) → has (literals (cond b [] (d ∷ above k t))) x ≡ true → (has (literals (above k t)) x ≡ true → has (literals t) x ≡ true)
        → has (literals (d ∷ t)) x ≡ true
    go true h rest = absurd (both_ways false refl h)
    go false h rest =
        ⊎_elim (λ z. has_here d.literal (literals t) x z) (λ j. has_later d.literal (literals t) x (rest j)) (has_cases d.literal (literals (above k t)) x h)

still_off : (t u : List Entry) (x : ℕ) → (has (literals u) x ≡ true → has (literals t) x ≡ true) → has (literals t) x ≡ false → has (literals u) x ≡ false
still_off t u x f n = false_from_ne_true (has (literals u) x) (λ h. both_ways (has (literals t) x) n (f h))

distinct_above : (k : ℕ) (t : List Entry) → Distinct t → Distinct (above k t)
distinct_above k [] d = tt
distinct_above k (e ∷ t) d = go (leb (level (e ∷ t)) k) (distinct_above k t d.1)
  where
    go : (b : Bool) → Distinct (above k t) → Distinct (cond b [] (e ∷ above k t))
    go true r = tt
    go false r = (still_off t (above k t) e.literal (above_on k t e.literal) d.0, r)

distinct_hits : (C : List ℕ) (t : List Entry) → Distinct t → Distinct (filter (hit C) t)
distinct_hits C [] d = tt
distinct_hits C (e ∷ t) d = go (hit C e) (distinct_hits C t d.1)
  where
    go : (b : Bool) → Distinct (filter (hit C) t) → Distinct (cond b (e ∷ filter (hit C) t) (filter (hit C) t))
    go true r = (still_off t (filter (hit C) t) e.literal (λ h. (kept_has C t e.literal h).0) d.0, r)
    go false r = r

pub one_above : (k : ℕ) (C : List ℕ) (t : List Entry) (e : Entry) → only (filter (hit C) (above k t)) ≡ Some e → OneAbove k C t (complement e.literal)
one_above k C t e h =
    let one = only_view C (above k t) e h in
    let r = above_at k t e.literal one.on in
    record {
      above = (contains C (complement e.literal) one.hits, (r.0, r.1, r.2, r.3 ∙ sym (twice e.literal), r.4));
      alone = λ other a.
          let d : Entry = a.1.0 in
          let i : has (literals (above k t)) (complement other) ≡ true = subst (λ x. has (literals (above k t)) x ≡ true) a.1.3 (at_above k t d a.1.1 a.1.2 a.1.4) in
          let j : has C (complement (complement other)) ≡ true = subst (λ x. has C x ≡ true) (sym (twice other)) (contained C other a.0) in
          sym (twice other) ∙ ap complement (one.others (complement other) i j);
    }

pub only_above : (k : ℕ) (C : List ℕ) (t : List Entry) (m : ℕ) → Distinct t → OneAbove k C t m → (e : Entry) × (only (filter (hit C) (above k t)) ≡ Some e)
only_above k C t m d one = go (filter (hit C) (above k t)) (distinct_hits C (above k t) (distinct_above k t d)) same there
  where
    same : (x : ℕ) → has (literals (filter (hit C) (above k t))) x ≡ true → x ≡ complement m
    same x h =
        let p = kept_has C (above k t) x h in
        let r = above_at k t x p.0 in
        sym (twice x) ∙ ap complement (one.alone (complement x) (contains C (complement x) p.1, (r.0, r.1, r.2, r.3 ∙ sym (twice x), r.4)))

    there : has (literals (filter (hit C) (above k t))) (complement m) ≡ true
    there =
        let a = one.above in
        let e : Entry = a.1.0 in
        let i : has (literals (above k t)) (complement m) ≡ true = subst (λ x. has (literals (above k t)) x ≡ true) a.1.3 (at_above k t e a.1.1 a.1.2 a.1.4) in
        has_kept C (above k t) (complement m) i (subst (λ x. has C x ≡ true) (sym (twice m)) (contained C m a.0))

    go : (es : List Entry) → Distinct es → ((x : ℕ) → has (literals es) x ≡ true → x ≡ complement m) → has (literals es) (complement m) ≡ true
        → (e : Entry) × (only es ≡ Some e)
    go [] d s h = absurd (both_ways false refl h)
    go (e ∷ []) d s h = (e, refl)
    go (e ∷ f ∷ es) d s h =
        let p = s e.literal (has_here e.literal (literals (f ∷ es)) e.literal refl) in
        let q = s f.literal (has_later e.literal (literals (f ∷ es)) f.literal (has_here f.literal (literals es) f.literal refl)) in
        absurd (both_ways (has (literals (f ∷ es)) e.literal) d.0 (has_here f.literal (literals es) e.literal (q ∙ sym p)))

-- ---- a cut

pub cut_is : (k : ℕ) {t u r : List Entry} {d : Entry} → Cuts k t (d ∷ u) r → Cut k t r
cut_is k (more {e = e} {t = t} h (stop g)) =
    let dec : e.reason ≡ Decided = decided_since e.reason k (level t) h g in
    let one : decisions e.reason ≡ 1 = ap decisions dec in
    record { first_off = e; there = at_here e t; decided = dec; decided_before = omega arith }
cut_is k (more {e = e} {t = t} {r = r} h (more {e = d} g v)) =
    let c = cut_is k (more {e = d} g v) in
    record { first_off = c.first_off; there = at_later e t c.first_off r c.there; decided = c.decided; decided_before = c.decided_before }

pub cut_same : (k : ℕ) (t r q : List Entry) → Cut k t r → Cut k t q → r ≡ q
cut_same k t r q x y =
    let e : Entry = x.first_off in
    let d : Entry = y.first_off in
    let a : decisions e.reason ≡ 1 = ap decisions x.decided in
    let b : decisions d.reason ≡ 1 = ap decisions y.decided in
    let low = x.decided_before in
    let high = y.decided_before in
    ⊎_elim (λ p. p.1)
    (λ w. absurd (⊎_elim (λ z. let l = at_level r d q z in omega arith) (λ z. let l = at_level q e r z in omega arith) w))
    (at_compare t e r d q x.there y.there)

-- ---- what explains an entry

pub explained_same : (M : Meaning) (s : State) → length s.book ≤ 512 → (e : Entry) (before : List Entry) (R D : List ℕ)
    → Explained M s e before R → Explained M s e before D → R ≡ D
explained_same M s few e before R D (by_clause c q h) (by_clause b p g) =
    let z : b ≡ c = cc in
    live_same s few c R D h (subst (λ (n : ℕ). Live s n D) z g)
explained_same M s few e before R D (by_clause c q h) (by_theory core p g is) = absurd (cc)
explained_same M s few e before R D (by_theory core q h is) (by_clause b p g) = absurd (cc)
explained_same M s few e before R D (by_theory core q h is) (by_theory core' p g is') =
    let z : core ≡ core' = cc in is ∙ ap (blamed (denying before e.literal)) z ∙ sym is'
