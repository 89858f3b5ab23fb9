-- What stays true while a row is settled: the terms are lowered once each, and the later ones by less. Assumes nothing.
use Rattle.std.proofs.Common.{◌≡◌, ℕ, ◌<◌, ◌⊎◌, List, length, set, ℤ, pos, ◌+ℤ◌, ◌≤ℤ◌, ◌<ℤ◌, sym, ap, ◌∙◌, inl, inr, ⊎_elim, arith}
use Rattle.std.proofs.lemmas.Int.{ints}
use Rattle.std.proofs.lemmas.Bool.{cases_eq}
use Rattle.std.proofs.lemmas.List.{get_or-set_same, get_or-set_other}
use Rattle.theory.specs.Meaning.{num}
use Rattle.difference.specs.declared.bound.Bound.{Bound}
use Rattle.difference.specs.Bounds.{at, Each}
use Rattle.difference.specs.Settling.{limit, excess}

-- a write of v at t: each number is the written one, or as it was
abbrev pub Moved : List ℤ → ℕ → ℤ → ℕ → Type 0
Moved row t v x = ((x ≡ t) × (num (set row t v) x ≡ v)) ⊎ ((x ≡ t → ⊥) × (num (set row t v) x ≡ num row x))

pub moved : (row : List ℤ) (t : ℕ) (v : ℤ) → t < length row → (x : ℕ) → Moved row t v x
moved row t v h x =
    ⊎_elim
    (λ e. inl (e, ap (num (set row t v)) e ∙ get_or-set_same row t v (pos 0) h))
    (λ ne. inr (ne, get_or-set_other row t x v (pos 0) ne))
    (cases_eq x t)

-- the old row keeps all bounds, but for some on u, and gap is by how much each lowered term was lowered at least
pub record Settling (bs : List Bound) (old row : List ℤ) (gap : ℤ) : Type 0 where
  pub lower : (x : ℕ) → num row x ≤ℤ num old x
  pub apart : (x : ℕ) → (num row x ≡ num old x) ⊎ ((num row x +ℤ gap) ≤ℤ num old x)
  pub near : Each (λ b. excess row b ≤ℤ gap) bs
  pub kept : Each (λ b. (num row b.term ≡ num old b.term) ⊎ (excess row b ≤ℤ pos 0)) bs

module _ (bs : List Bound) (u : ℕ) (old row : List ℤ) (gap : ℤ) (s : Settling bs old row gap)
    (old_kept : Each (λ b. (b.base ≡ u) ⊎ (excess old b ≤ℤ pos 0)) bs)
    (p : ℕ) (t : ℕ) (v e : ℤ) (within : p < length bs) (t_is : t ≡ (at bs p).term) (t_in : t < length row)
    (t_free : t ≡ u → ⊥) (v_is : v ≡ limit row (at bs p)) (e_is : e ≡ excess row (at bs p)) (broken : pos 0 <ℤ e)
    (most : Each (λ b. excess row b ≤ℤ e) bs) where
  -- the term was not lowered before
  pub t_old : num row t ≡ num old t
  t_old =
      ⊎_elim (λ h. ap (num row) t_is ∙ h ∙ ap (num old) (sym t_is)) (λ h. absurd (omega (arith, ints, h)))
      (s.kept p within)

  pub down : (v +ℤ e) ≡ num row t
  down = let h : num row t ≡ num row (at bs p).term = ap (num row) t_is in omega (arith, ints)

  next_lower : (x : ℕ) → num (set row t v) x ≤ℤ num old x
  next_lower x =
      ⊎_elim
      (λ h. let a : num (set row t v) x ≡ v = h.1 in let b : num old x ≡ num old t = ap (num old) h.0 in
      omega (arith, ints, a, b, down, t_old))
      (λ h. let a : num (set row t v) x ≡ num row x = h.1 in omega (arith, ints, a, s.lower x))
      (moved row t v t_in x)

  pub shrinks : e ≤ℤ gap
  shrinks = omega (arith, ints, s.near p within)

  next_apart : (x : ℕ) → (num (set row t v) x ≡ num old x) ⊎ ((num (set row t v) x +ℤ e) ≤ℤ num old x)
  next_apart x =
      ⊎_elim
      (λ h. let b : num old x ≡ num old t = ap (num old) h.0 in inr (omega (arith, ints, h.1, b, down, t_old)))
      (λ h. ⊎_elim (λ k. inl (h.1 ∙ k)) (λ k. inr (omega (arith, ints, h.1, k, shrinks))) (s.apart x))
      (moved row t v t_in x)

  -- a bound on the lowered term, other than one on u, is kept by the old row
  from_t : (b : Bound) → (b.base ≡ u) ⊎ (excess old b ≤ℤ pos 0) → b.base ≡ t → (excess old b ≤ℤ pos 0) × (num row b.base ≡ num old t) × (num old b.base ≡ num old t)
  from_t b h e_t =
      (⊎_elim (λ k. absurd (t_free (sym e_t ∙ k))) (λ k. k) h, ap (num row) e_t ∙ t_old, ap (num old) e_t)

  near_at : (b : Bound) → (b.base ≡ u) ⊎ (excess old b ≤ℤ pos 0) → excess row b ≤ℤ e → excess (set row t v) b ≤ℤ e
  near_at b o h =
      ⊎_elim
      (λ x. let x' : num row b.term ≡ num row t = ap (num row) x.0 in ⊎_elim
      (λ y. let y' : num row b.base ≡ num row t = ap (num row) y.0 in omega (arith, ints, x.1, y.1, x', y', h))
      (λ y. omega (arith, ints, x.1, y.1, x', h, down))
      (moved row t v t_in b.base))
      (λ x. ⊎_elim
      (λ y. let k : _ = from_t b o y.0 in
      omega (arith, ints, x.1, y.1, k.0, k.1, k.2, down, t_old, s.lower b.term))
      (λ y. omega (arith, ints, x.1, y.1, h))
      (moved row t v t_in b.base))
      (moved row t v t_in b.term)

  next_near : Each (λ b. excess (set row t v) b ≤ℤ e) bs
  next_near q h = near_at (at bs q) (old_kept q h) (most q h)

  kept_at : (b : Bound) → (b.base ≡ u) ⊎ (excess old b ≤ℤ pos 0) → excess row b ≤ℤ e → (num row b.term ≡ num old b.term) ⊎ (excess row b ≤ℤ pos 0) → (num (set row t v) b.term ≡ num old b.term) ⊎ (excess (set row t v) b ≤ℤ pos 0)
  kept_at b o h g =
      ⊎_elim
      (λ x. let x' : num row b.term ≡ num row t = ap (num row) x.0 in let x'' : num old b.term ≡ num old t = ap (num old) x.0 in inr (⊎_elim
      (λ y. let k : _ = from_t b o y.0 in omega (arith, ints, x.1, y.1, x'', k.0, k.2))
      (λ y. omega (arith, ints, x.1, y.1, x', h, down))
      (moved row t v t_in b.base)))
      (λ x. ⊎_elim
      (λ y. let k : _ = from_t b o y.0 in ⊎_elim
      (λ a. inl (x.1 ∙ a))
      (λ a. inr (omega (arith, ints, x.1, y.1, k.0, k.1, k.2, a, shrinks, down, t_old)))
      (s.apart b.term))
      (λ y. ⊎_elim (λ a. inl (x.1 ∙ a)) (λ a. inr (omega (arith, ints, x.1, y.1, a))) g)
      (moved row t v t_in b.base))
      (moved row t v t_in b.term)

  pub settles_on : Settling bs old (set row t v) e
  settles_on = record {
    lower = next_lower;
    apart = next_apart;
    near = next_near;
    kept = λ q h. kept_at (at bs q) (old_kept q h) (most q h) (s.kept q h);
  }
