-- What lists of numbers have, and which tests their numbers pass. Assumes nothing.
use Rattle.std.proofs.Common.{◌≡◌, ℕ, zero, suc, ◌<◌, ◌≤◌, Bool, true, false, not, ◌||◌, eqb, ◌≢◌, ◌⊎◌, List, [], ◌∷◌, ◌++◌, Some, length, slice_get, slice_index, slice_index_or, filter, inl, inr, refl, sym, ap, ◌∙◌, subst, ⊎_elim, arith}
use Rattle.std.proofs.lemmas.Bool.{both_ways, cases_Bool, cases_eq, eqb-true, eq-eqb, ne_eqb, or_cases, or_left, or_right, or_parts, and_parts, and_from, and_cases, not_from_false, cond_both}
use Rattle.std.proofs.Math.Bool.{or_comm, or_assoc}
use Rattle.std.specs.List.{Contains, list_all, list_any}
use Rattle.theory.specs.Literals.{has}
use Rattle.rules.specs.Clauses.{all_below}

-- ---- what a list has

pub has_here : (y : ℕ) (ys : List ℕ) (x : ℕ) → y ≡ x → has (y ∷ ys) x ≡ true
has_here y ys x e = or_left (eqb y x) (has ys x) (eq-eqb y x e)

pub has_later : (y : ℕ) (ys : List ℕ) (x : ℕ) → has ys x ≡ true → has (y ∷ ys) x ≡ true
has_later y ys x h = or_right (eqb y x) (has ys x) h

pub has_cases : (y : ℕ) (ys : List ℕ) (x : ℕ) → has (y ∷ ys) x ≡ true → (y ≡ x) ⊎ (has ys x ≡ true)
has_cases y ys x h = ⊎_elim (λ e. inl (eqb-true y x e)) (λ e. inr e) (or_cases (eqb y x) (has ys x) h)

pub has_push : (xs : List ℕ) (y x : ℕ) → has (xs ++ y ∷ []) x ≡ (eqb y x || has xs x)
has_push [] y x = refl
has_push (z ∷ zs) y x =
    ap (λ b. eqb z x || b) (has_push zs y x) ∙ sym (or_assoc (eqb z x) (eqb y x) (has zs x)) ∙ ap (λ b. b || has zs x) (or_comm (eqb z x) (eqb y x))
    ∙ or_assoc (eqb y x) (eqb z x) (has zs x)

pub has_at : (xs : List ℕ) (p : ℕ) → p < length xs → has xs (slice_index xs p) ≡ true
has_at [] p h = absurd (omega arith)
has_at (x ∷ xs) zero h = has_here x xs x refl
has_at (x ∷ xs) (suc p) h = has_later x xs (slice_index xs p) (has_at xs p (omega arith))

pub contains : (ls : List ℕ) (x : ℕ) → has ls x ≡ true → Contains ls x
contains [] x h = absurd (both_ways false refl h)
contains (y ∷ ys) x h = ⊎_elim (λ (e : y ≡ x). (0, omega arith, e)) (λ j. let r = contains ys x j in (suc r.0, omega (arith, r.1), r.2)) (has_cases y ys x h)

contained_at : (ls : List ℕ) (k x : ℕ) → k < length ls → slice_index_or ls k x ≡ x → has ls x ≡ true
contained_at [] k x l e = absurd (omega arith)
contained_at (y ∷ ys) zero x l e = has_here y ys x e
contained_at (y ∷ ys) (suc k) x l e = has_later y ys x (contained_at ys k x (omega arith) e)

pub contained : (ls : List ℕ) (x : ℕ) → Contains ls x → has ls x ≡ true
contained ls x c = contained_at ls c.0 x c.1 c.2

-- ---- tests of what a list has

pub list_all_has : (test : ℕ → Bool) (xs : List ℕ) (x : ℕ) → list_all test xs ≡ true → has xs x ≡ true → test x ≡ true
list_all_has test [] x h i = absurd (both_ways false refl i)
list_all_has test (y ∷ ys) x h i =
    let b = and_parts (test y) (list_all test ys) h in
    ⊎_elim (λ (e : y ≡ x). subst (λ z. test z ≡ true) e b.0) (λ j. list_all_has test ys x b.1 j) (has_cases y ys x i)

pub has_list_all : (test : ℕ → Bool) (xs : List ℕ) → ((x : ℕ) → has xs x ≡ true → test x ≡ true) → list_all test xs ≡ true
has_list_all test [] h = refl
has_list_all test (y ∷ ys) h =
    and_from (test y) (list_all test ys) (h y (has_here y ys y refl)) (has_list_all test ys (λ x i. h x (has_later y ys x i)))

pub list_any_has : (test : ℕ → Bool) (xs : List ℕ) → list_any test xs ≡ true → (x : ℕ) × (has xs x ≡ true) × (test x ≡ true)
list_any_has test [] h = absurd (both_ways false refl h)
list_any_has test (y ∷ ys) h =
    ⊎_elim (λ e. (y, has_here y ys y refl, e)) (λ e. let r = list_any_has test ys e in (r.0, has_later y ys r.0 r.1, r.2))
    (or_cases (test y) (list_any test ys) h)

pub list_any_not : (test : ℕ → Bool) (xs : List ℕ) → list_any test xs ≡ false → (x : ℕ) → has xs x ≡ true → test x ≡ false
list_any_not test [] h x i = absurd (both_ways false refl i)
list_any_not test (y ∷ ys) h x i =
    let b = or_parts (test y) (list_any test ys) h in
    ⊎_elim (λ (e : y ≡ x). subst (λ z. test z ≡ false) e b.0) (λ j. list_any_not test ys b.1 x j) (has_cases y ys x i)

-- a clause that fails a test
pub failing : (test : List ℕ → Bool) (cs : List (List ℕ)) → list_all test cs ≡ false → (c : ℕ) × (c < length cs) × (R : List ℕ) × (slice_get cs c ≡ Some R) × (test R ≡ false)
failing test [] h = absurd (both_ways true h refl)
failing test (x ∷ xs) h =
    ⊎_elim (λ q. (0, omega arith, x, refl, q)) (λ q. let r = failing test xs q in (suc r.0, omega (arith, r.1), r.2, r.3, r.4)) (and_cases (test x) (list_all test xs) h)

-- ---- tests of the numbers below a limit

pub all_below_at : (k : ℕ) (test : ℕ → Bool) → all_below k test ≡ true → (i : ℕ) → i < k → test i ≡ true
all_below_at zero test h i l = absurd (omega arith)
all_below_at (suc k) test h i l =
    let b = and_parts (test k) (all_below k test) h in
    ⊎_elim (λ (e : k ≡ i). subst (λ z. test z ≡ true) e b.0) (λ (n : k ≢ i). all_below_at k test b.1 i (omega arith)) (cases_eq k i)

pub all_below_not : (k : ℕ) (test : ℕ → Bool) → all_below k test ≡ false → (i : ℕ) × (i < k) × (test i ≡ false)
all_below_not zero test h = absurd (both_ways true h refl)
all_below_not (suc k) test h =
    ⊎_elim (λ e. (k, omega arith, e)) (λ e. let r = all_below_not k test e in (r.0, omega (arith, r.1), r.2))
    (and_cases (test k) (all_below k test) h)

-- ---- a number that is not on a list

left_out : ℕ → List ℕ → List ℕ
left_out x ys = filter (λ y. not (eqb y x)) ys

left_out_fewer : (x : ℕ) (ys : List ℕ) → length (left_out x ys) ≤ length ys
unfolding left_out
left_out_fewer x [] = omega arith
left_out_fewer x (y ∷ ys) =
    let r = left_out_fewer x ys in
    cond_both (not (eqb y x)) (y ∷ left_out x ys) (left_out x ys) (λ zs. length zs ≤ suc (length ys)) (λ _. omega arith) (λ _. omega arith)

left_out_one : (x : ℕ) (ys : List ℕ) → has ys x ≡ true → length (left_out x ys) < length ys
unfolding left_out
left_out_one x [] h = absurd (both_ways false refl h)
left_out_one x (y ∷ ys) h =
    cond_both (not (eqb y x)) (y ∷ left_out x ys) (left_out x ys) (λ zs. length zs < suc (length ys))
    (λ e. ⊎_elim (λ (q : y ≡ x). absurd (both_ways (not (eqb y x)) (ap not (eq-eqb y x q)) e)) (λ j. omega (arith, left_out_one x ys j)) (has_cases y ys x h))
    (λ e. omega (arith, left_out_fewer x ys))

left_out_has : (x : ℕ) (ys : List ℕ) (k : ℕ) → has ys k ≡ true → k ≢ x → has (left_out x ys) k ≡ true
unfolding left_out
left_out_has x [] k h n = h
left_out_has x (y ∷ ys) k h n =
    cond_both (not (eqb y x)) (y ∷ left_out x ys) (left_out x ys) (λ zs. has zs k ≡ true)
    (λ e. ⊎_elim (λ q. has_here y (left_out x ys) k q) (λ j. has_later y (left_out x ys) k (left_out_has x ys k j n)) (has_cases y ys k h))
    (λ e. ⊎_elim (λ (q : y ≡ k). absurd (both_ways (not (eqb y x)) e (not_from_false (eqb y x) (ne_eqb y x (λ z. n (sym q ∙ z)))))) (λ j. left_out_has x ys k j n)
    (has_cases y ys k h))

-- of `m` numbers, a list that is shorter lacks one
pub missing : (m : ℕ) (xs : List ℕ) → length xs < m → (k : ℕ) × (k < m) × (has xs k ≡ false)
missing zero xs h = absurd (omega arith)
missing (suc m) xs h =
    ⊎_elim
    (λ (i : has xs m ≡ true).
    let s : length (left_out m xs) < m = omega (arith, left_out_one m xs i) in
    let r = missing m (left_out m xs) s in
    (r.0, omega (arith, r.1), ⊎_elim (λ j. absurd (both_ways (has (left_out m xs) r.0) r.2 (left_out_has m xs r.0 j (λ q. omega (arith, r.1))))) (λ j. j) (cases_Bool (has xs r.0))))
    (λ (n : has xs m ≡ false). (m, omega arith, n))
    (cases_Bool (has xs m))
