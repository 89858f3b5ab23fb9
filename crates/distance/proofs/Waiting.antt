-- A queue that has each bound that a row breaks, none twice, as a term is lowered. Assumes nothing.
use Rattle.std.proofs.Common.{◌≡◌, ℕ, zero, suc, ◌+◌, ◌-◌, ◌<◌, ◌≤◌, Bool, true, false, cond, not, ◌||◌, eqb, List, [], ◌∷◌, ◌++◌, length, set, ℤ, pos, ◌≤ℤ◌, ◌<ℤ◌, filter, sym, refl, ap, ◌∙◌, ⊎_elim, arith}
use lib.Signed.{lt_z}
use Rattle.std.specs.List.{AllByRecursion}
use Rattle.std.proofs.lemmas.Int.{ints}
use Rattle.std.proofs.ByRecursion.{All-append, all_kept_by}
use Rattle.std.proofs.lemmas.Bool.{cases_Bool, cases_eq, or_cases, or_from, or_left, or_right, or_parts, eq-eqb, eqb-true, eqb-false, not-true, both_ways}
use Rattle.theory.specs.Literals.{has}
use Rattle.theory.specs.Positions.{put}
use Rattle.theory.proofs.Positions.{all_has, has_all}
use Rattle.theory.specs.Meaning.{num}
use Rattle.difference.specs.declared.bound.Bound.{Bound}
use Rattle.difference.specs.Bounds.{at, Distinct}
use Rattle.difference.specs.Settling.{excess}
use Rattle.difference.proofs.Settling.{moved}
use Rattle.distance.specs.Index.{based}
use Rattle.distance.specs.Queue.{breaks, Covers, broken_on}
use Rattle.distance.proofs.Indexing.{based_all}
use Rattle.distance.proofs.Marking.{or_assoc}

-- ---- lists of numbers, none twice

pub has_append : (xs ys : List ℕ) (q : ℕ) → has (xs ++ ys) q ≡ (has xs q || has ys q)
has_append [] ys q = refl
has_append (x ∷ xs) ys q = ap (λ b. eqb x q || b) (has_append xs ys q) ∙ or_assoc (eqb x q) (has xs q) (has ys q)

lacks : (xs : List ℕ) (q : ℕ) → (has xs q ≡ true → ⊥) → has xs q ≡ false
lacks xs q h = ⊎_elim (λ t. absurd (h t)) (λ f. f) (cases_Bool (has xs q))

distinct_append : (xs ys : List ℕ) → Distinct xs → Distinct ys → ((q : ℕ) → has xs q ≡ true → has ys q ≡ true → ⊥) → Distinct (xs ++ ys)
distinct_append [] ys d e h = e
distinct_append (x ∷ xs) ys d e h = (
  has_append xs ys x ∙ or_from (has xs x) (has ys x) d.0 (lacks ys x (h x (or_left (eqb x x) (has xs x) (eq-eqb x x refl)))),
  distinct_append xs ys d.1 e (λ q a b. h q (or_right (eqb x q) (has xs q) a) b),
)

module _ (p : ℕ → Bool) where
  kept_has : (xs : List ℕ) (q : ℕ) → p q ≡ true → has xs q ≡ true → has (filter p xs) q ≡ true
  kept_has [] q t h = h
  kept_has (x ∷ xs) q t h = go (kept_has xs q t) (p x) refl
    where
      go : (has xs q ≡ true → has (filter p xs) q ≡ true) → (c : Bool) → p x ≡ c → has (cond c (x ∷ filter p xs) (filter p xs)) q ≡ true
      go again true e = ⊎_elim (or_left (eqb x q) (has (filter p xs) q)) (λ k. or_right (eqb x q) (has (filter p xs) q) (again k)) (or_cases (eqb x q) (has xs q) h)
      go again false e = ⊎_elim (λ k. absurd (both_ways (p x) e (ap p (eqb-true x q k) ∙ t))) again (or_cases (eqb x q) (has xs q) h)

  has_kept : (xs : List ℕ) (q : ℕ) → has (filter p xs) q ≡ true → (has xs q ≡ true) × (p q ≡ true)
  has_kept [] q h = absurd (both_ways false refl h)
  has_kept (x ∷ xs) q h = go (has_kept xs q) (p x) refl h
    where
      later : (has xs q ≡ true) × (p q ≡ true) → (has (x ∷ xs) q ≡ true) × (p q ≡ true)
      later r = (or_right (eqb x q) (has xs q) r.0, r.1)

      go : (has (filter p xs) q ≡ true → (has xs q ≡ true) × (p q ≡ true)) → (c : Bool) → p x ≡ c → has (cond c (x ∷ filter p xs) (filter p xs)) q ≡ true → (has (x ∷ xs) q ≡ true) × (p q ≡ true)
      go again true e k =
          ⊎_elim (λ t. (or_left (eqb x q) (has xs q) t, ap p (sym (eqb-true x q t)) ∙ e)) (λ t. later (again t))
          (or_cases (eqb x q) (has (filter p xs) q) k)
      go again false e k = later (again k)

  kept_distinct : (xs : List ℕ) → Distinct xs → Distinct (filter p xs)
  kept_distinct [] d = tt
  kept_distinct (x ∷ xs) d = go (kept_distinct xs d.1) (p x)
    where
      go : Distinct (filter p xs) → (c : Bool) → Distinct (cond c (x ∷ filter p xs) (filter p xs))
      go again true = (lacks (filter p xs) x (λ h. both_ways (has xs x) d.0 (has_kept xs x h).0), again)
      go again false = again

-- at most n numbers below n
module _ (n : ℕ) where
  other : ℕ → Bool
  other x = not (eqb x n)

  others_below : (xs : List ℕ) → AllByRecursion (λ x. x < suc n) xs → AllByRecursion (λ x. x < n) (filter other xs)
  unfolding other
  others_below [] a = tt
  others_below (x ∷ xs) a = go (others_below xs a.1) (other x) refl
    where
      go : AllByRecursion (λ y. y < n) (filter other xs) → (c : Bool) → other x ≡ c → AllByRecursion (λ y. y < n) (cond c (x ∷ filter other xs) (filter other xs))
      go again true e = (let ne : x ≡ n → ⊥ = eqb-false x n (not-true (eqb x n) e) in omega (arith, a.0, ne), again)
      go again false e = again

  none_lost : (xs : List ℕ) → has xs n ≡ false → length (filter other xs) ≡ length xs
  unfolding other
  none_lost [] h = refl
  none_lost (x ∷ xs) h =
      let f = or_parts (eqb x n) (has xs n) h in
      ap (λ b. length (cond (not b) (x ∷ filter other xs) (filter other xs))) f.0 ∙ ap suc (none_lost xs f.1)

  one_lost : (xs : List ℕ) → Distinct xs → length xs ≤ length (filter other xs) + 1
  unfolding other
  one_lost [] d = omega arith
  one_lost (x ∷ xs) d = go (one_lost xs d.1) (eqb x n) refl
    where
      go : length xs ≤ length (filter other xs) + 1 → (c : Bool) → eqb x n ≡ c → suc (length xs) ≤ length (cond (not c) (x ∷ filter other xs) (filter other xs)) + 1
      go again true e = omega (arith, none_lost xs (ap (has xs) (sym (eqb-true x n e)) ∙ d.0))
      go again false e = omega (arith, again)

few : (n : ℕ) (xs : List ℕ) → AllByRecursion (λ x. x < n) xs → Distinct xs → length xs ≤ n
few zero [] a d = omega arith
few zero (x ∷ xs) a d = absurd (omega (arith, a.0))
few (suc n) xs a d = omega (arith, few n (filter (other n) xs) (others_below n xs a) (kept_distinct (other n) xs d), one_lost n xs d)

-- ---- the bounds with one base

module _ (bs : List Bound) (x : ℕ) where
  based_has : (k q : ℕ) → q < k → (at bs q).base ≡ x → has (based bs x k) q ≡ true
  unfolding based
  based_has zero q l e = absurd (omega arith)
  based_has (suc k) q l e = go (λ h. based_has k q h e) (eqb (at bs k).base x) refl
    where
      go : (q < k → has (based bs x k) q ≡ true) → (c : Bool) → eqb (at bs k).base x ≡ c → has (put c k (based bs x k)) q ≡ true
      go again true t =
          ⊎_elim (λ h. or_left (eqb k q) (has (based bs x k) q) (eq-eqb k q (sym h))) (λ ne. or_right (eqb k q) (has (based bs x k) q) (again (omega (arith, l, ne)))) (cases_eq q k)
      go again false t =
          ⊎_elim (λ h. absurd (both_ways (eqb (at bs k).base x) t (eq-eqb (at bs k).base x (ap (λ n. (at bs n).base) (sym h) ∙ e)))) (λ ne. again (omega (arith, l, ne))) (cases_eq q k)

  pub based_only : (k q : ℕ) → has (based bs x k) q ≡ true → (q < k) × ((at bs q).base ≡ x)
  based_only k q h = all_has (λ q. (q < k) × ((at bs q).base ≡ x)) (based bs x k) (based_all bs x k) q h

  based_distinct : (k : ℕ) → Distinct (based bs x k)
  unfolding based
  based_distinct zero = tt
  based_distinct (suc k) = go (based_distinct k) (eqb (at bs k).base x)
    where
      go : Distinct (based bs x k) → (c : Bool) → Distinct (put c k (based bs x k))
      go again true = (lacks (based bs x k) k (λ h. let r = based_only k k h in omega (arith, r.0)), again)
      go again false = again

-- ---- those that a row breaks

module _ (row : List ℤ) (bs : List Bound) (x : ℕ) where
  broken_has : (q : ℕ) → q < length bs → (at bs q).base ≡ x → breaks row bs q ≡ true → has (broken_on row bs x) q ≡ true
  broken_has q l e t = kept_has (breaks row bs) (based bs x (length bs)) q t (based_has bs x (length bs) q l e)

  broken_only : (q : ℕ) → has (broken_on row bs x) q ≡ true → (q < length bs) × ((at bs q).base ≡ x)
  broken_only q h = based_only bs x (length bs) q (has_kept (breaks row bs) (based bs x (length bs)) q h).0

  broken_distinct : Distinct (broken_on row bs x)
  broken_distinct = kept_distinct (breaks row bs) (based bs x (length bs)) (based_distinct bs x (length bs))

-- ---- the queue

pub record Waiting (row : List ℤ) (bs : List Bound) (qs : List ℕ) : Type 0 where
  pub covers : Covers row bs qs
  pub positions : AllByRecursion (λ q. q < length bs) qs
  pub distinct : Distinct qs

pub waiting_few : {row : List ℤ} {bs : List Bound} {qs : List ℕ} → Waiting row bs qs → length qs ≤ length bs
waiting_few {row} {bs} {qs} w = few (length bs) qs w.positions w.distinct

-- at the start only the last bound may be broken
pub waiting_last : (row : List ℤ) (bs : List Bound) → 0 < length bs → ((q : ℕ) → q < length bs - 1 → excess row (at bs q) ≤ℤ pos 0) → Waiting row bs ((length bs - 1) ∷ [])
waiting_last row bs some kept = record {
  covers = λ q l t. ⊎_elim
      (λ e. or_left (eqb (length bs - 1) q) false (eq-eqb (length bs - 1) q (sym e)))
      (λ ne. let k : excess row (at bs q) ≤ℤ pos 0 = kept q (omega (arith, l, ne)) in
      let f : lt_z (pos 0) (excess row (at bs q)) ≡ false = grind (arith, ints) in absurd (both_ways (breaks row bs q) f t))
      (cases_eq q (length bs - 1));
  positions = (omega arith, tt);
  distinct = (refl, tt);
}

-- a term is lowered that is no broken bound's base: of the queue the broken ones stay, and the broken ones with that base come
pub waiting_on : (row : List ℤ) (bs : List Bound) (qs : List ℕ) (x : ℕ) (v : ℤ) → Waiting row bs qs → x < length row → v ≤ℤ num row x
    → ((q : ℕ) → q < length bs → pos 0 <ℤ excess row (at bs q) → (at bs q).base ≡ x → ⊥)
    → Waiting (set row x v) bs (filter (breaks row bs) qs ++ broken_on (set row x v) bs x)
waiting_on row bs qs x v w within lower free =
    let kept : List ℕ = filter (breaks row bs) qs in
    let new : List ℕ = broken_on (set row x v) bs x in
    record {
      covers = λ q l t. has_append kept new q ∙ ⊎_elim
          (λ e. or_right (has kept q) (has new q) (broken_has (set row x v) bs x q l e t))
          (λ ne. let b : breaks row bs q ≡ true = still q t ne in or_left (has kept q) (has new q) (kept_has (breaks row bs) qs q b (w.covers q l b)))
          (cases_eq (at bs q).base x);
      positions = All-append (λ q. q < length bs) kept new (all_kept_by (breaks row bs) (λ q. q < length bs) qs w.positions)
          (has_all (λ q. q < length bs) new (λ q h. (broken_only (set row x v) bs x q h).0));
      distinct = distinct_append kept new (kept_distinct (breaks row bs) qs w.distinct) (broken_distinct (set row x v) bs x)
          (λ q a b. let r = broken_only (set row x v) bs x q b in
          let t : lt_z (pos 0) (excess row (at bs q)) ≡ true = (has_kept (breaks row bs) qs q a).1 in
          free q r.0 (grind (arith, ints)) r.1);
    }
  where
    still : (q : ℕ) → breaks (set row x v) bs q ≡ true → ((at bs q).base ≡ x → ⊥) → breaks row bs q ≡ true
    still q t ne =
        let h : pos 0 <ℤ excess (set row x v) (at bs q) = grind (arith, ints) in
        let b : num (set row x v) (at bs q).base ≡ num row (at bs q).base = ⊎_elim (λ y. absurd (ne y.0)) (λ y. y.1) (moved row x v within (at bs q).base) in
        let a : num (set row x v) (at bs q).term ≤ℤ num row (at bs q).term = ⊎_elim
        (λ y. let z : num row (at bs q).term ≡ num row x = ap (num row) y.0 in omega (arith, ints, y.1, z, lower))
        (λ y. omega (arith, ints, y.1)) (moved row x v within (at bs q).term) in
        let k : pos 0 <ℤ excess row (at bs q) = omega (arith, ints, h, a, b) in
        grind (arith, ints)
