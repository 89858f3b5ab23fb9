-- Searches below a limit, and a row of numbers. Assumes nothing.
use Rattle.std.proofs.Common.{◌≡◌, ℕ, zero, suc, ◌+◌, ◌<◌, Bool, true, false, length, get_or, ℤ, pos, Some, None, Option, sym, refl, ap, ◌∙◌, ⊎_elim, arith}
use Rattle.std.proofs.lemmas.Bool.{cases_eq, and_parts, and_from, or_cases, or_left, or_right}
use Rattle.congruence.specs.Merges.{when, or_else, first, last, every_below, any_below}
use Rattle.congruence.specs.Equality.{row}

-- what is found was found for some number, and nothing for the lower ones
pub found : {A : Type 0} (n : ℕ) (f : ℕ → Option A) (x : A) → first n f ≡ Some x → (k : ℕ) × (k < n) × (f k ≡ Some x)
unfolding first
found zero f x e = cc
found {A} (suc n) f x e = go (found n f x) (first n f) refl e
  where
    go : (first n f ≡ Some x → (k : ℕ) × (k < n) × (f k ≡ Some x))
        → (o : Option A) → first n f ≡ o → or_else o (f n) ≡ Some x → (k : ℕ) × (k < suc n) × (f k ≡ Some x)
    go again (Some y) h e = let w = again (h ∙ e) in (w.0, omega (arith, w.1), w.2)
    go again None h e = (n, omega arith, e)

pub not_found : {A : Type 0} (n : ℕ) (f : ℕ → Option A) → first n f ≡ None → (k : ℕ) → k < n → f k ≡ None
unfolding first
not_found zero f e k h = absurd (omega arith)
not_found {A} (suc n) f e k h = go (λ w i. not_found n f w k i) (first n f) refl e
  where
    go : (first n f ≡ None → k < n → f k ≡ None) → (o : Option A) → first n f ≡ o → or_else o (f n) ≡ None → f k ≡ None
    go again (Some y) w e = cc
    go again None w e = ⊎_elim
        (λ (q : k ≡ n). ap f q ∙ e)
        (λ (q : k ≡ n → ⊥). again w (omega arith))
        (cases_eq k n)

-- the same of a search from above
pub last_found : {A : Type 0} (n : ℕ) (f : ℕ → Option A) (x : A) → last n f ≡ Some x → (k : ℕ) × (k < n) × (f k ≡ Some x)
unfolding last
last_found zero f x e = cc
last_found {A} (suc n) f x e = go (last_found n f x) (f n) refl e
  where
    go : (last n f ≡ Some x → (k : ℕ) × (k < n) × (f k ≡ Some x))
        → (o : Option A) → f n ≡ o → or_else o (last n f) ≡ Some x → (k : ℕ) × (k < suc n) × (f k ≡ Some x)
    go again (Some y) h e = (n, omega arith, h ∙ e)
    go again None h e = let w = again e in (w.0, omega (arith, w.1), w.2)

pub last_not_found : {A : Type 0} (n : ℕ) (f : ℕ → Option A) → last n f ≡ None → (k : ℕ) → k < n → f k ≡ None
unfolding last
last_not_found zero f e k h = absurd (omega arith)
last_not_found {A} (suc n) f e k h = go (λ w i. last_not_found n f w k i) (f n) refl e
  where
    go : (last n f ≡ None → k < n → f k ≡ None) → (o : Option A) → f n ≡ o → or_else o (last n f) ≡ None → f k ≡ None
    go again (Some y) w e = cc
    go again None w e = ⊎_elim
        (λ (q : k ≡ n). ap f q ∙ w)
        (λ (q : k ≡ n → ⊥). again e (omega arith))
        (cases_eq k n)

pub when_some : {A : Type 0} (b : Bool) (x y : A) → when b x ≡ Some y → (b ≡ true) × (x ≡ y)
when_some true x y e = (refl, cc)
when_some false x y e = cc

pub when_none : {A : Type 0} (b : Bool) (x : A) → when b x ≡ None → b ≡ false
when_none true x e = cc
when_none false x e = refl

pub every_in : (n : ℕ) (p : ℕ → Bool) → every_below n p ≡ true → (k : ℕ) → k < n → p k ≡ true
every_in zero p e k h = absurd (omega arith)
every_in (suc n) p e k h = ⊎_elim
    (λ (q : k ≡ n). ap p q ∙ (and_parts (p n) (every_below n p) e).0)
    (λ (q : k ≡ n → ⊥). every_in n p (and_parts (p n) (every_below n p) e).1 k (omega arith))
    (cases_eq k n)

pub every_from : (n : ℕ) (p : ℕ → Bool) → ((k : ℕ) → k < n → p k ≡ true) → every_below n p ≡ true
every_from zero p h = refl
every_from (suc n) p h = and_from (p n) (every_below n p) (h n (omega arith)) (every_from n p (λ k l. h k (omega arith)))

pub any_from : (n : ℕ) (p : ℕ → Bool) (k : ℕ) → k < n → p k ≡ true → any_below n p ≡ true
any_from zero p k h e = absurd (omega arith)
any_from (suc n) p k h e = ⊎_elim
    (λ (q : k ≡ n). or_left (p n) (any_below n p) (ap p (sym q) ∙ e))
    (λ (q : k ≡ n → ⊥). or_right (p n) (any_below n p) (any_from n p k (omega arith) e))
    (cases_eq k n)

pub any_in : (n : ℕ) (p : ℕ → Bool) → any_below n p ≡ true → (k : ℕ) × (k < n) × (p k ≡ true)
any_in zero p e = cc
any_in (suc n) p e = ⊎_elim
    (λ h. (n, omega arith, h))
    (λ h. let w = any_in n p h in (w.0, omega (arith, w.1), w.2))
    (or_cases (p n) (any_below n p) e)

-- ---- a row of numbers

pub row_long : (low count : ℕ) (f : ℕ → ℤ) → length (row low count f) ≡ count
unfolding row
row_long low zero f = refl
row_long low (suc count) f = ap suc (row_long (low + 1) count f)

pub row_at : (low count : ℕ) (f : ℕ → ℤ) (k : ℕ) → k < count → get_or (row low count f) k (pos 0) ≡ f (low + k)
unfolding row
row_at low zero f k h = absurd (omega arith)
row_at low (suc count) f zero h = ap f (omega arith)
row_at low (suc count) f (suc k) h = row_at (low + 1) count f k (omega arith) ∙ ap f (omega arith)
