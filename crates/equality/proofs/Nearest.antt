-- Searches from above, and the nearest earlier term with one head. Assumes nothing.
use Rattle.std.proofs.Common.{◌≡◌, ℕ, zero, suc, ◌+◌, ◌<◌, ◌≤◌, true, false, eqb, List, length, take, Some, None, Option, sym, refl, ap, ◌∙◌, subst, ⊎_elim, add-one, arith, get_or-take}
use Rattle.std.proofs.lemmas.Bool.{cases_eq, eq-eqb, eqb-true, and_parts, and_from}
use Rattle.std.proofs.lemmas.List.{length-take-le}
use Rattle.theory.specs.declared.term.Term.{Term}
use Rattle.theory.specs.Terms.{at}
use Rattle.congruence.specs.Merges.{when, or_else, last}
use Rattle.congruence.proofs.Searches.{last_not_found, when_some, when_none}
use Rattle.equality.specs.Index.{SameHead, same_head, LastLike, nearest}

-- nothing is found from `k` on
pub last_skip : {A : Type 0} (n k : ℕ) (f : ℕ → Option A) → k ≤ n → ((w : ℕ) → k ≤ w → w < n → f w ≡ None) → last n f ≡ last k f
unfolding last
last_skip zero k f h none = ap (λ (j : ℕ). last j f) (let e : 0 ≡ k = omega arith in e)
last_skip (suc n) k f h none = ⊎_elim
    (λ (e : k ≡ suc n). ap (λ (j : ℕ). last j f) (sym e))
    (λ (e : k ≡ suc n → ⊥). ap (λ o. or_else o (last n f)) (none n (omega arith) (omega arith)) ∙ last_skip n k f (omega arith) (λ w a b. none w a (omega arith)))
    (cases_eq k (suc n))

pub last_none : {A : Type 0} (f : ℕ → Option A) → last 0 f ≡ None
unfolding last
last_none f = refl

pub last_here : {A : Type 0} (n : ℕ) (f : ℕ → Option A) (x : A) → f n ≡ Some x → last (n + 1) f ≡ Some x
unfolding last
last_here n f x e = ap (λ (k : ℕ). last k f) (add-one n) ∙ ap (λ o. or_else o (last n f)) e

pub last_past : {A : Type 0} (n : ℕ) (f : ℕ → Option A) → f n ≡ None → last (n + 1) f ≡ last n f
unfolding last
last_past n f e = ap (λ (k : ℕ). last k f) (add-one n) ∙ ap (λ o. or_else o (last n f)) e

-- what is found, with nothing above it
last_top : {A : Type 0} (n : ℕ) (f : ℕ → Option A) (x : A) → last n f ≡ Some x
    → (k : ℕ) × (k < n) × (f k ≡ Some x) × ((w : ℕ) → k < w → w < n → f w ≡ None)
unfolding last
last_top {A} zero f x e = absurd (let z : ◌≡◌ {A = ℕ} 0 1 = cc in omega arith)
last_top {A} (suc n) f x e = go (last_top n f x) (f n) refl e
  where
    go : (last n f ≡ Some x → (k : ℕ) × (k < n) × (f k ≡ Some x) × ((w : ℕ) → k < w → w < n → f w ≡ None))
        → (o : Option A) → f n ≡ o → or_else o (last n f) ≡ Some x → (k : ℕ) × (k < suc n) × (f k ≡ Some x) × ((w : ℕ) → k < w → w < suc n → f w ≡ None)
    go again (Some y) h e = (n, omega arith, h ∙ e, λ w a b. absurd (omega arith))
    go again None h e =
        let r = again e in
        (r.0, omega (arith, r.1), r.2, λ w a b. ⊎_elim (λ (q : w ≡ n). ap f q ∙ h) (λ (q : w ≡ n → ⊥). r.3 w a (omega arith)) (cases_eq w n))

-- ---- heads

abbrev heads : List Term → ℕ → ℕ → Option ℕ
heads ts t u = when (same_head (at ts t) (at ts u)) u

head_true : (ts : List Term) (t u : ℕ) → same_head (at ts t) (at ts u) ≡ true → SameHead ts t u
head_true ts t u e =
    let x = and_parts (eqb (at ts t).symbol (at ts u).symbol) (eqb (at ts t).arity (at ts u).arity) e in
    (eqb-true (at ts t).symbol (at ts u).symbol x.0, eqb-true (at ts t).arity (at ts u).arity x.1)

head_from : (ts : List Term) (t u : ℕ) → SameHead ts t u → same_head (at ts t) (at ts u) ≡ true
head_from ts t u (s, a) = and_from _ _ (eq-eqb (at ts t).symbol (at ts u).symbol s) (eq-eqb (at ts t).arity (at ts u).arity a)

other : (ts : List Term) (t w : ℕ) → heads ts t w ≡ None → SameHead ts t w → ⊥
other ts t w e h = let z : true ≡ false = sym (head_from ts t w h) ∙ when_none (same_head (at ts t) (at ts w)) w e in let y : ◌≡◌ {A = ℕ} 0 1 = cc in omega arith

-- where a search stands that has found a term, and has yet to look at those below it
abbrev pub left : Option ℕ → ℕ
left None = 0
left (Some u) = u + 1

-- a found term is earlier and has the head
abbrev pub Found : List Term → ℕ → Option ℕ → Type 0
Found ts t o = (u : ℕ) → o ≡ Some u → (u < t) × SameHead ts t u

pub nearest_found : (ts : List Term) (t : ℕ) → Found ts t (nearest ts t)
nearest_found ts t u e =
    let r = last_top t (heads ts t) u e in
    let x = when_some (same_head (at ts t) (at ts r.0)) r.0 u r.2 in
    subst (λ (k : ℕ). (k < t) × SameHead ts t k) x.1 (r.1, head_true ts t r.0 x.0)

-- the terms above it have other heads
nearest_above : (ts : List Term) (t : ℕ) (o : Option ℕ) → nearest ts t ≡ o → (left o ≤ t) × ((w : ℕ) → left o ≤ w → w < t → SameHead ts t w → ⊥)
nearest_above ts t None e = (omega arith, λ w a b. other ts t w (last_not_found t (heads ts t) e w b))
nearest_above ts t (Some u) e =
    let r = last_top t (heads ts t) u e in
    let x = when_some (same_head (at ts t) (at ts r.0)) r.0 u r.2 in
    (omega (arith, r.1, x.1), λ w a b. other ts t w (r.3 w (omega (arith, x.1)) b))

pub above : (ts : List Term) (t : ℕ) → (left (nearest ts t) ≤ t) × ((w : ℕ) → left (nearest ts t) ≤ w → w < t → SameHead ts t w → ⊥)
above ts t = nearest_above ts t (nearest ts t) refl

-- ---- the search for it

pub last_found : (ts : List Term) (t : ℕ) (own : Term) (o : Option ℕ) → own ≡ at ts t → t < length ts → LastLike (take t ts) own o → o ≡ nearest ts t
last_found ts t own o e h m = go o (subst (λ (x : Term). LastLike (take t ts) x o) e m)
  where
    size : length (take t ts) ≡ t
    size = length-take-le t ts (omega arith)

    here : (w : ℕ) → w < t → same_head (at ts t) (at (take t ts) w) ≡ same_head (at ts t) (at ts w)
    here w a = ap (same_head (at ts t)) (get_or-take t ts w _ a)

    miss : (w : ℕ) → w < t → same_head (at ts t) (at (take t ts) w) ≡ false → heads ts t w ≡ None
    miss w a e = ap (λ b. when b w) (sym (here w a) ∙ e)

    go : (o : Option ℕ) → LastLike (take t ts) (at ts t) o → o ≡ nearest ts t
    go None m = sym (last_skip t 0 (heads ts t) (omega arith) (λ w a b. miss w b (m w (omega (arith, size)))) ∙ last_none (heads ts t))
    go (Some u) m =
        let low : u < t = omega (arith, m.0, size) in
        sym (last_skip t (u + 1) (heads ts t) (omega arith) (λ w a b. miss w b (m.2 w (omega arith) (omega (arith, size))))
        ∙ last_here u (heads ts t) u (ap (λ b. when b u) (sym (here u low) ∙ m.1)))
