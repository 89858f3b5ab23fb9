-- What is needed to join two terms joins them. Assumes nothing.
use Rattle.std.proofs.Common.{◌≡◌, ℕ, ◌<◌, Bool, true, false, cond, ◌||◌, eqb, ◌⊎◌, List, [], ◌∷◌, length, sym, refl, ◌∙◌, subst, inl, inr, ⊎_elim, arith}
use Rattle.std.proofs.lemmas.Bool.{cases_eq, eq-eqb, eqb-true, eqb-false, or_cases, or_left, or_right}
use Rattle.theory.specs.declared.term.Term.{Term}
use Rattle.theory.specs.Terms.{at}
use Rattle.congruence.specs.declared.step.Step.{Step}
use Rattle.congruence.specs.declared.step.Reason.{Reason}
use Rattle.congruence.specs.declared.step.Reason.TheVariants.{Congruence, Asserted}
use Rattle.congruence.specs.Table.{arg, Lower}
use Rattle.congruence.specs.Congruence.{Fit, Joined, by_given, by_same, by_sym, by_trans, by_cong}
use Rattle.congruence.specs.Merges.{relabel, label, rests, crosses, needed}
use Rattle.congruence.specs.Log.{RestsOn, Rightful, Logged}
use Rattle.congruence.proofs.Searches.{any_from, any_in}
use Rattle.congruence.proofs.Closing.{relabel_here, relabel_other}

-- a fit in which what is given is equal gives joined terms equal numbers
pub complete : {A : Type 0} (ts : List Term) (Given : ℕ → ℕ → Type 0) (num : ℕ → A) → Fit ts num
    → ((t u : ℕ) → Given t u → num t ≡ num u) → {t u : ℕ} → Joined ts Given t u → num t ≡ num u
complete ts Given num fit given (by_given t u g) = given t u g
complete ts Given num fit given (by_same t) = refl
complete ts Given num fit given (by_sym j) = sym (complete ts Given num fit given j)
complete ts Given num fit given (by_trans i j) = complete ts Given num fit given i ∙ complete ts Given num fit given j
complete ts Given num fit given (by_cong t u ht hu s a js) = fit t u ht hu (s, a, λ i h. complete ts Given num fit given (js i h))

-- more that is given joins more
pub widen : (ts : List Term) (G H : ℕ → ℕ → Type 0) → ((t u : ℕ) → G t u → H t u) → {t u : ℕ} → Joined ts G t u → Joined ts H t u
widen ts G H f (by_given t u g) = by_given t u (f t u g)
widen ts G H f (by_same t) = by_same t
widen ts G H f (by_sym j) = by_sym (widen ts G H f j)
widen ts G H f (by_trans i j) = by_trans (widen ts G H f i) (widen ts G H f j)
widen ts G H f (by_cong t u ht hu s a js) = by_cong t u ht hu s a (λ i h. widen ts G H f (js i h))

-- what is asserted at positions that pass a test
abbrev pub At : (ℕ → ℕ → ℕ → Type 0) → (ℕ → Bool) → ℕ → ℕ → Type 0
At Asserts test t u = (p : ℕ) × (test p ≡ true) × Asserts p t u

pub widen_at : (ts : List Term) (Asserts : ℕ → ℕ → ℕ → Type 0) (f g : ℕ → Bool) → ((p : ℕ) → f p ≡ true → g p ≡ true) → {t u : ℕ}
    → Joined ts (At Asserts f) t u → Joined ts (At Asserts g) t u
widen_at ts Asserts f g h j = widen ts (At Asserts f) (At Asserts g) (λ t u a. (a.0, h a.0 a.1, a.2)) j

-- ---- two labels that a merge brought together

abbrev pub Ends : ℕ → ℕ → ℕ → ℕ → Type 0
Ends a b high low = ((a ≡ high) × (b ≡ low)) ⊎ ((a ≡ low) × (b ≡ high))

pub met : (high low a b : ℕ) → (a ≡ b → ⊥) → relabel high low a ≡ relabel high low b → Ends a b high low
met high low a b n e = ⊎_elim
    (λ (p : a ≡ high). ⊎_elim
    (λ (q : b ≡ high). absurd (n (p ∙ sym q)))
    (λ (q : b ≡ high → ⊥). inl (p, sym (relabel_other high low b q) ∙ sym e ∙ relabel_here high low a p))
    (cases_eq b high))
    (λ (p : a ≡ high → ⊥). ⊎_elim
    (λ (q : b ≡ high). inr (sym (relabel_other high low a p) ∙ e ∙ relabel_here high low b q, q))
    (λ (q : b ≡ high → ⊥). absurd (n (sym (relabel_other high low a p) ∙ e ∙ relabel_other high low b q)))
    (cases_eq b high))
    (cases_eq a high)

pub across : (a b l r high low : ℕ) → Ends a b high low → Ends l r high low → a ≡ l → r ≡ b
across a b l r high low (inl (p, q)) (inl (x, y)) e = omega arith
across a b l r high low (inl (p, q)) (inr (x, y)) e = omega arith
across a b l r high low (inr (p, q)) (inl (x, y)) e = omega arith
across a b l r high low (inr (p, q)) (inr (x, y)) e = omega arith

pub crossed : (a b l r high low : ℕ) → Ends a b high low → Ends l r high low → (a ≡ l → ⊥) → (a ≡ r) × (l ≡ b)
crossed a b l r high low (inl (p, q)) (inl (x, y)) e = absurd (e (p ∙ sym x))
crossed a b l r high low (inl (p, q)) (inr (x, y)) e = (omega arith, omega arith)
crossed a b l r high low (inr (p, q)) (inl (x, y)) e = (omega arith, omega arith)
crossed a b l r high low (inr (p, q)) (inr (x, y)) e = absurd (e (p ∙ sym x))

-- ---- one merge

module _ (ts : List Term) (Asserts : ℕ → ℕ → ℕ → Type 0) (lower : Lower ts) (s : Step) (older : List Step) (r : Rightful ts Asserts (label older) s)
    (again : (t u : ℕ) → t < length ts → u < length ts → label older t ≡ label older u → Joined ts (At Asserts (λ p. needed ts older p t u)) t u) where
  -- what a merge rests on joins its ends
  joined_ends : (more : ℕ → Bool) (reason : Reason) → RestsOn ts Asserts (label older) s.left s.right reason
      → Joined ts (At Asserts (λ p. more p || rests ts (needed ts older p) p s reason)) s.left s.right
  joined_ends more (Asserted q) a = by_given s.left s.right (q, or_right (more q) (eqb q q) (eq-eqb q q refl), a)
  joined_ends more Congruence (e, f, args) =
      by_cong s.left s.right r.left_in r.right_in e f
      (λ i h.
      let x : arg (at ts s.left) i < s.left = lower s.left r.left_in i h in
      let y : arg (at ts s.right) i < s.right = lower s.right r.right_in i (omega (arith, f, h)) in
      widen_at ts Asserts (λ p. needed ts older p (arg (at ts s.left) i) (arg (at ts s.right) i)) _
      (λ p n. or_right (more p) _
      (any_from (at ts s.left).arity (λ i. needed ts older p (arg (at ts s.left) i) (arg (at ts s.right) i)) i h n))
      (again (arg (at ts s.left) i) (arg (at ts s.right) i) (omega (arith, x, r.left_in)) (omega (arith, y, r.right_in)) (args i h)))

  -- the way from `t` to `u` by the merge
  joined_by : (t u : ℕ) → t < length ts → u < length ts → Ends (label older t) (label older u) s.high s.low
      → Joined ts (At Asserts (λ p. crosses (label older) (needed ts older p) s t u || rests ts (needed ts older p) p s s.reason)) t u
  joined_by t u ht hu m = go (eqb (label older t) (label older s.left)) refl
    where
      go : (c : Bool) → eqb (label older t) (label older s.left) ≡ c
          → Joined ts (At Asserts (λ p.
          cond c (needed ts older p t s.left || needed ts older p s.right u) (needed ts older p t s.right || needed ts older p s.left u)
          || rests ts (needed ts older p) p s s.reason)) t u
      go true e =
          let x : label older t ≡ label older s.left = eqb-true (label older t) (label older s.left) e in
          let y : label older s.right ≡ label older u = across (label older t) (label older u) (label older s.left) (label older s.right) s.high s.low m r.ends x in
          by_trans
          (widen_at ts Asserts (λ p. needed ts older p t s.left) _ (λ p n. or_left _ _ (or_left _ _ n)) (again t s.left ht r.left_in x))
          (by_trans
          (joined_ends (λ p. needed ts older p t s.left || needed ts older p s.right u) s.reason r.rests_on)
          (widen_at ts Asserts (λ p. needed ts older p s.right u) _ (λ p n. or_left _ _ (or_right _ _ n)) (again s.right u r.right_in hu y)))
      go false e =
          let x = crossed (label older t) (label older u) (label older s.left) (label older s.right) s.high s.low m r.ends
          (eqb-false (label older t) (label older s.left) e) in
          by_trans
          (widen_at ts Asserts (λ p. needed ts older p t s.right) _ (λ p n. or_left _ _ (or_left _ _ n)) (again t s.right ht r.right_in x.0))
          (by_trans
          (by_sym (joined_ends (λ p. needed ts older p t s.right || needed ts older p s.left u) s.reason r.rests_on))
          (widen_at ts Asserts (λ p. needed ts older p s.left u) _ (λ p n. or_left _ _ (or_right _ _ n)) (again s.left u r.left_in hu x.1)))

  -- one merge on
  joined_on : (t u : ℕ) → t < length ts → u < length ts → label (s ∷ older) t ≡ label (s ∷ older) u
      → Joined ts (At Asserts (λ p. needed ts (s ∷ older) p t u)) t u
  unfolding needed
  joined_on t u ht hu e = go (eqb (label older t) (label older u)) refl
    where
      go : (c : Bool) → eqb (label older t) (label older u) ≡ c
          → Joined ts (At Asserts (λ p.
          cond c (needed ts older p t u) (crosses (label older) (needed ts older p) s t u || rests ts (needed ts older p) p s s.reason))) t u
      go true q = again t u ht hu (eqb-true (label older t) (label older u) q)
      go false q = joined_by t u ht hu (met s.high s.low (label older t) (label older u) (eqb-false (label older t) (label older u) q) e)

-- terms with one label are joined by what is needed for it
pub explained : (ts : List Term) (Asserts : ℕ → ℕ → ℕ → Type 0) → Lower ts → (log : List Step) → Logged ts Asserts log
    → (t u : ℕ) → t < length ts → u < length ts → label log t ≡ label log u → Joined ts (At Asserts (λ p. needed ts log p t u)) t u
explained ts Asserts lower [] l t u ht hu e = subst (λ (x : ℕ). Joined ts (At Asserts (λ p. needed ts [] p t u)) t x) e (by_same t)
explained ts Asserts lower (s ∷ older) (r, l) t u ht hu e = joined_on ts Asserts lower s older r (explained ts Asserts lower older l) t u ht hu e

-- ---- what is needed is asserted

module _ (ts : List Term) (Asserts : ℕ → ℕ → ℕ → Type 0) (p : ℕ) where
  There : Type 0
  There = (a : ℕ) × (b : ℕ) × Asserts p a b

  rests_asserted : (needs : ℕ → ℕ → Bool) (num : ℕ → ℕ) (s : Step) → ((t u : ℕ) → needs t u ≡ true → There) → (reason : Reason)
      → RestsOn ts Asserts num s.left s.right reason → rests ts needs p s reason ≡ true → There
  unfolding There
  rests_asserted needs num s again (Asserted q) a e = (s.left, s.right, subst (λ (k : ℕ). Asserts k s.left s.right) (eqb-true q p e) a)
  rests_asserted needs num s again Congruence c e =
      let w = any_in (at ts s.left).arity (λ i. needs (arg (at ts s.left) i) (arg (at ts s.right) i)) e in
      again (arg (at ts s.left) w.0) (arg (at ts s.right) w.0) w.2

  crosses_asserted : (needs : ℕ → ℕ → Bool) (num : ℕ → ℕ) (s : Step) (t u : ℕ) → ((t u : ℕ) → needs t u ≡ true → There)
      → crosses num needs s t u ≡ true → There
  crosses_asserted needs num s t u again e = go (eqb (num t) (num s.left)) e
    where
      go : (c : Bool) → cond c (needs t s.left || needs s.right u) (needs t s.right || needs s.left u) ≡ true → There
      go true e = ⊎_elim (again t s.left) (again s.right u) (or_cases (needs t s.left) (needs s.right u) e)
      go false e = ⊎_elim (again t s.right) (again s.left u) (or_cases (needs t s.right) (needs s.left u) e)

  needed_on : (s : Step) (older : List Step) → Rightful ts Asserts (label older) s → ((t u : ℕ) → needed ts older p t u ≡ true → There)
      → (t u : ℕ) → needed ts (s ∷ older) p t u ≡ true → There
  unfolding needed
  needed_on s older r again t u e = go (eqb (label older t) (label older u)) e
    where
      go : (c : Bool) → cond c (needed ts older p t u) (crosses (label older) (needed ts older p) s t u || rests ts (needed ts older p) p s s.reason) ≡ true → There
      go true e = again t u e
      go false e = ⊎_elim
          (crosses_asserted (needed ts older p) (label older) s t u again)
          (rests_asserted (needed ts older p) (label older) s again s.reason r.rests_on)
          (or_cases (crosses (label older) (needed ts older p) s t u) (rests ts (needed ts older p) p s s.reason) e)

  pub needed_asserted : (log : List Step) → Logged ts Asserts log → (t u : ℕ) → needed ts log p t u ≡ true → (a : ℕ) × (b : ℕ) × Asserts p a b
  unfolding needed There
  needed_asserted [] l t u e = cc
  needed_asserted (s ∷ older) (r, l) t u e = needed_on s older r (needed_asserted older l) t u e
