-- Sets of literals as lists, and what a proper clause has. Assumes nothing.
use Rattle.std.proofs.Common.{◌≡◌, ℕ, zero, suc, ◌+◌, ◌*◌, ◌<◌, ◌≤◌, Bool, true, false, not, List, refl, ⊎_elim, arith}
use Rattle.std.proofs.lemmas.Bool.{both_ways, and_from, or_from, not_from_false, false_from_ne_true}
use Rattle.std.proofs.lemmas.List.Elements.{All-from_recursion, recursion_from_All}
use Rattle.std.specs.Cmp.{both_ways as same_truth}
use Rattle.theory.specs.Literals.{complement, has, names, apart, Proper}
use Rattle.theory.specs.Positions.{put, listed}
use Rattle.theory.proofs.Positions.{all_has, has_all, listed_has, listed_only, listed_same}
use Rattle.rules.specs.Clauses.{set_of}
use Rattle.rules.proofs.Lists.{has_cases}

pub proper_below : (n : ℕ) (ls : List ℕ) → Proper n ls → (x : ℕ) → has ls x ≡ true → x < 2 * n
proper_below n ls p x h = all_has (λ l. l < 2 * n) ls (recursion_from_All (λ l. l < 2 * n) ls p.below) x h

-- what is listed is in the range
listed_within : (low count : ℕ) (test : ℕ → Bool) (x : ℕ) → has (listed low count test) x ≡ true → (low ≤ x) × (x < low + count)
unfolding listed
listed_within low zero test x h = absurd (both_ways false refl h)
listed_within low (suc count) test x h = go (λ i. listed_within (low + 1) count test x i) (test low) h
  where
    go : (has (listed (low + 1) count test) x ≡ true → (low + 1 ≤ x) × (x < (low + 1) + count)) → (b : Bool)
        → has (put b low (listed (low + 1) count test)) x ≡ true → (low ≤ x) × (x < low + suc count)
    go rest true h =
        ⊎_elim (λ (e : low ≡ x). (omega arith, omega arith)) (λ j. let r = rest j in (omega (arith, r.0), omega (arith, r.1)))
        (has_cases low (listed (low + 1) count test) x h)
    go rest false h = let r = rest h in (omega (arith, r.0), omega (arith, r.1))

-- ---- sets

pub set_only : (test : ℕ → Bool) (x : ℕ) → has (set_of test) x ≡ true → test x ≡ true
set_only = listed_only 0 256

-- a set has the literals that pass its test
pub set_has : (test : ℕ → Bool) (x : ℕ) → x < 256 → has (set_of test) x ≡ test x
set_has test x h = same_truth _ _ (set_only test x) (listed_has 0 256 test x (omega arith) (omega arith))

-- and no other number
pub set_lacks : (test : ℕ → Bool) (x : ℕ) → 256 ≤ x → has (set_of test) x ≡ false
set_lacks test x h = false_from_ne_true _ (λ e. let r = listed_within 0 256 test x e in omega (arith, r.1))

-- tests that agree on the literals give one set
pub set_same : (f g : ℕ → Bool) → ((x : ℕ) → x < 256 → f x ≡ g x) → set_of f ≡ set_of g
set_same f g h = listed_same 0 256 f g (λ x a b. h x (omega arith))

listed_apart : (low count : ℕ) (test : ℕ → Bool) → ((x : ℕ) → test x ≡ true → test (complement x) ≡ true → ⊥) → apart (listed low count test) ≡ true
unfolding listed
listed_apart low zero test once = refl
listed_apart low (suc count) test once = go (listed_apart (low + 1) count test once) (test low) refl
  where
    rest : List ℕ
    rest = listed (low + 1) count test

    go : apart rest ≡ true → (b : Bool) → test low ≡ b → apart (put b low rest) ≡ true
    go later true q =
        and_from (not (names rest low)) (apart rest)
        (not_from_false (names rest low) (or_from (has rest low) (has rest (complement low))
        (false_from_ne_true (has rest low) (λ h. let r = listed_within (low + 1) count test low h in omega (arith, r.0)))
        (false_from_ne_true (has rest (complement low)) (λ h. once low q (listed_only (low + 1) count test (complement low) h)))))
        later
    go later false q = later

-- a set of literals, not both of a literal and its complement among them, is a clause
pub set_proper : (n : ℕ) (test : ℕ → Bool) → ((x : ℕ) → test x ≡ true → x < 2 * n) → ((x : ℕ) → test x ≡ true → test (complement x) ≡ true → ⊥) → Proper n (set_of test)
set_proper n test low once = record {
  below = All-from_recursion (λ l. l < 2 * n) (set_of test) (has_all (λ l. l < 2 * n) (set_of test) (λ x h. low x (set_only test x h)));
  apart_claims = listed_apart 0 256 test once;
}
