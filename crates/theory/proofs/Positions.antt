-- Rows of positions, and listing them one by one. Assumes nothing.
use Rattle.std.proofs.Common.{◌≡◌, ℕ, zero, suc, ◌+◌, ◌-◌, ◌<◌, ◌≤◌, Bool, true, false, ◌||◌, eqb, List, [], ◌∷◌, ◌++◌, length, take, drop, set, sym, refl, ap, ◌∙◌, subst, ⊎_elim, append_assoc, append-nil, arith, take-append-drop}
use Rattle.std.proofs.lemmas.List.{take_more_set, drop-set-lt, length-take-le, drop-drop, length-set}
use Rattle.std.proofs.lemmas.Bool.{cases_eq, or_cases, or_left, or_right, eq-eqb, eqb-true, true≢false}
use Rattle.std.specs.List.{AllByRecursion}
use Rattle.theory.specs.Literals.{has}
use Rattle.theory.specs.Positions.{put, listed}
use Rattle.theory.specs.Meaning.{Rising}
use Rattle.theory.specs.Calls.{over}

-- ---- what a list has

-- what holds of each element holds of each number that the list has, and the other way round
pub all_has : (P : ℕ → Type 0) (xs : List ℕ) → AllByRecursion P xs → (x : ℕ) → has xs x ≡ true → P x
all_has P [] a x h = absurd (true≢false (sym h))
all_has P (y ∷ ys) a x h =
    ⊎_elim (λ e. subst P (eqb-true y x e) a.0) (all_has P ys a.1 x) (or_cases (eqb y x) (has ys x) h)

pub has_all : (P : ℕ → Type 0) (xs : List ℕ) → ((x : ℕ) → has xs x ≡ true → P x) → AllByRecursion P xs
has_all P [] h = tt
has_all P (y ∷ ys) h =
    (h y (ap (λ b. b || has ys y) (eq-eqb y y refl)), has_all P ys (λ x e. h x (later (eqb y x) (has ys x) e)))
  where
    later : (a b : Bool) → b ≡ true → (a || b) ≡ true
    later true b e = refl
    later false b e = e

-- ---- what is listed

-- rising, from a number on
From : ℕ → ℕ → List ℕ → Type 0
From low limit [] = Unit {0}
From low limit (p ∷ ps) = (low ≤ p) × (p < limit) × From (p + 1) limit ps

lower : (low less limit : ℕ) (ps : List ℕ) → less ≤ low → From low limit ps → From less limit ps
unfolding From
lower low less limit [] h f = tt
lower low less limit (p ∷ ps) h f = (omega (arith, f.0), f.1, f.2)

listed_from : (low count limit : ℕ) (test : ℕ → Bool) → low + count ≤ limit → From low limit (listed low count test)
unfolding From listed
listed_from low zero limit test h = tt
listed_from low (suc count) limit test h = go (listed_from (low + 1) count limit test (omega arith)) (test low)
  where
    go : From (low + 1) limit (listed (low + 1) count test) → (b : Bool) → From low limit (put b low (listed (low + 1) count test))
    go rest true = (omega arith, omega arith, rest)
    go rest false = lower (low + 1) low limit (listed (low + 1) count test) (omega arith) rest

rising : (low limit : ℕ) (ps : List ℕ) → From low limit ps → Rising limit ps
unfolding From
rising low limit [] f = tt
rising low limit (p ∷ []) f = f.1
rising low limit (p ∷ q ∷ ps) f = (omega (arith, f.2.0), rising (p + 1) limit (q ∷ ps) f.2)

pub listed_rises : (n : ℕ) (test : ℕ → Bool) → Rising n (listed 0 n test)
listed_rises n test = rising 0 n (listed 0 n test) (listed_from 0 n n test (omega arith))

-- a number is on the list if it is in the range and passes the test
pub listed_has : (low count : ℕ) (test : ℕ → Bool) (k : ℕ) → low ≤ k → k < low + count → test k ≡ true → has (listed low count test) k ≡ true
unfolding listed
listed_has low zero test k a b e = absurd (omega arith)
listed_has low (suc count) test k a b e = go (λ i. listed_has (low + 1) count test k i (omega arith) e) (test low) refl
  where
    go : (low + 1 ≤ k → has (listed (low + 1) count test) k ≡ true) → (c : Bool) → test low ≡ c → has (put c low (listed (low + 1) count test)) k ≡ true
    go again true q = ⊎_elim
        (λ (x : k ≡ low). or_left (eqb low k) (has (listed (low + 1) count test) k) (eq-eqb low k (sym x)))
        (λ (x : k ≡ low → ⊥). or_right (eqb low k) (has (listed (low + 1) count test) k) (again (omega arith)))
        (cases_eq k low)
    go again false q = ⊎_elim
        (λ (x : k ≡ low). let z : true ≡ false = sym e ∙ ap test x ∙ q in cc)
        (λ (x : k ≡ low → ⊥). again (omega arith))
        (cases_eq k low)

-- and only then
pub listed_only : (low count : ℕ) (test : ℕ → Bool) (k : ℕ) → has (listed low count test) k ≡ true → test k ≡ true
unfolding listed
listed_only low zero test k e = cc
listed_only low (suc count) test k e = go (listed_only (low + 1) count test k) (test low) refl e
  where
    go : (has (listed (low + 1) count test) k ≡ true → test k ≡ true) → (c : Bool) → test low ≡ c → has (put c low (listed (low + 1) count test)) k ≡ true → test k ≡ true
    go again true q h = ⊎_elim
        (λ x. ap test (sym (eqb-true low k x)) ∙ q)
        again
        (or_cases (eqb low k) (has (listed (low + 1) count test) k) h)
    go again false q h = again h

-- ---- listing one by one

listed_more : (p n : ℕ) (test : ℕ → Bool) → 0 < n → listed p n test ≡ put (test p) p (listed (p + 1) (n - 1) test)
unfolding listed
listed_more p zero test h = absurd (omega arith)
listed_more p (suc n) test h = ap (λ (k : ℕ). put (test p) p (listed (p + 1) k test)) (omega arith)

listed_end : (p n : ℕ) (test : ℕ → Bool) → n ≡ 0 → listed p n test ≡ []
unfolding listed
listed_end p n test e = ap (λ (k : ℕ). listed p k test) e

-- what a place holds of a list on the way
pub record Partly (row : List ℕ) (p len : ℕ) (test : ℕ → Bool) (old new : List ℕ) (n : ℕ) : Type 0 where
  pub before : take n new ++ listed p (len - p) test ≡ row
  pub rest : drop n new ≡ drop n old
  pub few : n ≤ p
  pub long : length new ≡ length old

pub partly_put : (row : List ℕ) (p len : ℕ) (test : ℕ → Bool) (old new : List ℕ) (n : ℕ) → p < len → len ≤ length old → test p ≡ true
    → Partly row p len test old new n → Partly row (p + 1) len test old (set new n p) (n + 1)
partly_put row p len test old new n h w e x = record {
  before = sym (put_more (listed (p + 1) (len - (p + 1)) test)) ∙ ap (λ (l : List ℕ). take n new ++ l) (sym here) ∙ x.before;
  rest = drop-set-lt (n + 1) new n p (omega arith) ∙ sym (again new) ∙ ap (drop 1) x.rest ∙ again old;
  few = omega (arith, x.few);
  long = length-set new n p ∙ x.long;
}
  where
    here : listed p (len - p) test ≡ p ∷ listed (p + 1) (len - (p + 1)) test
    here = listed_more p (len - p) test (omega arith) ∙ ap (λ b. put b p (listed (p + 1) ((len - p) - 1) test)) e
        ∙ ap (λ (k : ℕ). p ∷ listed (p + 1) k test) (let z : (len - p) - 1 ≡ len - (p + 1) = omega arith in z)

    put_more : (l : List ℕ) → take n new ++ (p ∷ l) ≡ take (n + 1) (set new n p) ++ l
    put_more l = sym (append_assoc (take n new) (p ∷ []) l) ∙ ap (λ z. z ++ l) (sym (take_more_set new n p (omega (arith, x.few, x.long))))

    again : (l : List ℕ) → drop 1 (drop n l) ≡ drop (n + 1) l
    again l = drop-drop 1 n l

pub partly_skip : (row : List ℕ) (p len : ℕ) (test : ℕ → Bool) (old new : List ℕ) (n : ℕ) → p < len → test p ≡ false
    → Partly row p len test old new n → Partly row (p + 1) len test old new n
partly_skip row p len test old new n h e x = record {
  before = ap (λ (l : List ℕ). take n new ++ l) (sym here) ∙ x.before;
  rest = x.rest;
  few = omega (arith, x.few);
  long = x.long;
}
  where
    here : listed p (len - p) test ≡ listed (p + 1) (len - (p + 1)) test
    here = listed_more p (len - p) test (omega arith) ∙ ap (λ b. put b p (listed (p + 1) ((len - p) - 1) test)) e
        ∙ ap (λ (k : ℕ). listed (p + 1) k test) (let z : (len - p) - 1 ≡ len - (p + 1) = omega arith in z)

pub partly_as : (row : List ℕ) (p len : ℕ) (test : ℕ → Bool) (old new new' : List ℕ) (n n' : ℕ) → new' ≡ new → n' ≡ n → Partly row p len test old new n → Partly row p len test old new' n'
partly_as row p len test old new new' n n' e f x =
    subst (λ (l : List ℕ). Partly row p len test old l n') (sym e) (subst (λ (k : ℕ). Partly row p len test old new k) (sym f) x)

-- what the place holds in the end
pub record Put (row old new : List ℕ) (r : ℕ) : Type 0 where
  pub told : r ≡ length row
  pub place : new ≡ over row old

pub partly_end : (row : List ℕ) (p len : ℕ) (test : ℕ → Bool) (old new : List ℕ) (n : ℕ) → len ≤ p → len ≤ length old → p ≤ len
    → Partly row p len test old new n → Put row old new n
partly_end row p len test old new n a w b x = record {
  told = size;
  place = sym (take-append-drop n new) ∙ ap (λ (l : List ℕ). l ++ drop n new) is ∙ ap (λ (l : List ℕ). row ++ l) (x.rest ∙ ap (λ (k : ℕ). drop k old) size);
}
  where
    is : take n new ≡ row
    is = sym (append-nil (take n new)) ∙ ap (λ (l : List ℕ). take n new ++ l) (sym (listed_end p (len - p) test (omega arith))) ∙ x.before

    size : n ≡ length row
    size = sym (length-take-le n new (omega (arith, x.few, x.long))) ∙ ap length is

-- the same row, by another test
pub listed_same : (low count : ℕ) (f g : ℕ → Bool) → ((p : ℕ) → low ≤ p → p < low + count → f p ≡ g p) → listed low count f ≡ listed low count g
unfolding listed
listed_same low zero f g h = refl
listed_same low (suc count) f g h =
    ap (λ b. put b low (listed (low + 1) count f)) (h low (omega arith) (omega arith))
    ∙ ap (put (g low) low) (listed_same (low + 1) count f g (λ p a b. h p (omega arith) (omega arith)))
