-- The bound that a row breaks most. Assumes nothing.
use Rattle.std.proofs.Common.{◌≡◌, ℕ, zero, suc, ◌+◌, ◌<◌, ◌⊎◌, List, [], ◌∷◌, length, ℤ, pos, ◌≤ℤ◌, ◌<ℤ◌, sym, refl, ap, ◌∙◌, inl, inr, ⊎_elim, arith}
use lib.Signed.{lt_z}
use Rattle.std.proofs.lemmas.Int.{ints}
use Rattle.std.proofs.lemmas.Bool.{cases_Bool, cases_lt, cond-true, cond-false}
use Rattle.std.specs.Int.Signed.{≤ℤ_refl}
use Rattle.difference.specs.declared.bound.Bound.{Bound}
use Rattle.difference.specs.Bounds.{at, Each}
use Rattle.difference.specs.Settling.{excess, worse, worst_from, worst}

pub le_trans : {a b c : ℤ} → a ≤ℤ b → b ≤ℤ c → a ≤ℤ c
le_trans {a} {b} {c} p q = omega (arith, ints)

worse_grows : (row : List ℤ) (i : ℕ) (best : ℕ × ℤ) (b : Bound) → best.1 ≤ℤ (worse row i best b).1
worse_grows row i best b = grind (arith, ints)

worse_bounds : (row : List ℤ) (i : ℕ) (best : ℕ × ℤ) (b : Bound) → excess row b ≤ℤ (worse row i best b).1
worse_bounds row i best b = grind (arith, ints)

worse_place : (row : List ℤ) (i : ℕ) (best : ℕ × ℤ) (b : Bound) → (worse row i best b ≡ best) ⊎ (worse row i best b ≡ (i, excess row b))
worse_place row i best b =
    ⊎_elim (λ t. inr (cond-true (lt_z best.1 (excess row b)) (i, excess row b) best t))
    (λ t. inl (cond-false (lt_z best.1 (excess row b)) (i, excess row b) best t)) (cases_Bool (lt_z best.1 (excess row b)))

pub grows : (row : List ℤ) (i : ℕ) (best : ℕ × ℤ) (bs : List Bound) → best.1 ≤ℤ (worst_from row i best bs).1
unfolding worst_from
grows row i best [] = ≤ℤ_refl best.1
grows row i best (b ∷ bs) = le_trans (worse_grows row i best b) (grows row (i + 1) (worse row i best b) bs)

pub bounds : (row : List ℤ) (i : ℕ) (best : ℕ × ℤ) (bs : List Bound) → Each (λ b. excess row b ≤ℤ (worst_from row i best bs).1) bs
unfolding worst_from
bounds row i best [] p h = absurd (omega arith)
bounds row i best (b ∷ bs) zero h = le_trans (worse_bounds row i best b) (grows row (i + 1) (worse row i best b) bs)
bounds row i best (b ∷ bs) (suc k) h = bounds row (i + 1) (worse row i best b) bs k (omega arith)

abbrev pub Place : List ℤ → ℕ → ℕ × ℤ → List Bound → ℕ × ℤ → Type 0
Place row i best bs r = (r ≡ best) ⊎ ((k : ℕ) × (k < length bs) × (r.0 ≡ i + k) × (r.1 ≡ excess row (at bs k)))

pub place : (row : List ℤ) (i : ℕ) (best : ℕ × ℤ) (bs : List Bound) → Place row i best bs (worst_from row i best bs)
unfolding worst_from
place row i best [] = inl refl
place row i best (b ∷ bs) =
    ⊎_elim
    (λ e. ⊎_elim (λ w. inl (e ∙ w)) (λ w. inr (0, omega arith, ap (λ q. q.0) (e ∙ w) ∙ omega arith, ap (λ q. q.1) (e ∙ w)))
    (worse_place row i best b))
    (λ f. inr (suc f.0, omega (arith, f.1), f.2 ∙ omega arith, f.3))
    (place row (i + 1) (worse row i best b) bs)

-- the position of a bound that is broken most, where one is
pub worst_is : (row : List ℤ) (bs : List Bound) → pos 0 <ℤ (worst row bs).1 → ((worst row bs).0 < length bs) × ((worst row bs).1 ≡ excess row (at bs (worst row bs).0))
worst_is row bs h =
    ⊎_elim
    (λ e. absurd (let z : (worst row bs).1 ≡ pos 0 = ap (λ q. q.1) e in omega (arith, ints)))
    (λ f. let e : (worst row bs).0 ≡ f.0 = f.2 ∙ omega arith in
    (omega (arith, f.1, e), f.3 ∙ ap (λ k. excess row (at bs k)) (sym e)))
    (place row 0 (0, pos 0) bs)

-- ---- which bound that is, said without a scan

-- it is broken, none is broken more, and those before it are broken less
pub record Taken (row : List ℤ) (bs : List Bound) (p : ℕ) : Type 0 where
  pub within : p < length bs
  pub broken : pos 0 <ℤ excess row (at bs p)
  pub most : (q : ℕ) → q < length bs → excess row (at bs q) ≤ℤ excess row (at bs p)
  pub first : (q : ℕ) → q < p → excess row (at bs q) <ℤ excess row (at bs p)

taken_one : (row : List ℤ) (bs : List Bound) (p q : ℕ) → Taken row bs p → Taken row bs q → p ≡ q
taken_one row bs p q s t =
    ⊎_elim
    (λ l. absurd (omega (arith, ints, t.first p l, s.most q t.within)))
    (λ l. ⊎_elim (λ k. absurd (omega (arith, ints, s.first q k, t.most p s.within))) (λ k. omega (arith, l, k)) (cases_lt q p))
    (cases_lt p q)

abbrev Lead : List ℤ → ℕ → ℕ × ℤ → List Bound → ℕ × ℤ → Type 0
Lead row i best bs r = (r ≡ best) ⊎ ((k : ℕ) × (r.0 ≡ i + k) × (best.1 <ℤ r.1) × ((q : ℕ) → q < k → excess row (at bs q) <ℤ r.1))

worse_lead : (row : List ℤ) (i : ℕ) (best : ℕ × ℤ) (b : Bound) → (worse row i best b ≡ best) ⊎ ((worse row i best b ≡ (i, excess row b)) × (best.1 <ℤ excess row b))
worse_lead row i best b =
    ⊎_elim
    (λ t. inr (cond-true (lt_z best.1 (excess row b)) (i, excess row b) best t, grind (arith, ints)))
    (λ t. inl (cond-false (lt_z best.1 (excess row b)) (i, excess row b) best t)) (cases_Bool (lt_z best.1 (excess row b)))

earlier : (row : List ℤ) (b : Bound) (bs : List Bound) (k : ℕ) (z : ℤ) → excess row b <ℤ z → ((q : ℕ) → q < k → excess row (at bs q) <ℤ z) → (q : ℕ) → q < suc k → excess row (at (b ∷ bs) q) <ℤ z
earlier row b bs k z h g zero l = h
earlier row b bs k z h g (suc q) l = g q (omega (arith, l))

lead : (row : List ℤ) (i : ℕ) (best : ℕ × ℤ) (bs : List Bound) → Lead row i best bs (worst_from row i best bs)
unfolding worst_from
lead row i best [] = inl refl
lead row i best (b ∷ bs) =
    let r : ℕ × ℤ = worst_from row (i + 1) (worse row i best b) bs in
    ⊎_elim
    (λ e. ⊎_elim (λ w. inl (e ∙ w))
    (λ w. let z : r.1 ≡ excess row b = ap (λ q. q.1) (e ∙ w.0) in
    inr (0, ap (λ q. q.0) (e ∙ w.0) ∙ omega arith, omega (arith, ints, w.1, z), λ q l. absurd (omega (arith, l))))
    (worse_lead row i best b))
    (λ f. inr (
      suc f.0,
      f.1 ∙ omega arith,
      omega (arith, ints, worse_grows row i best b, f.2),
      earlier row b bs f.0 r.1 (omega (arith, ints, worse_bounds row i best b, f.2)) f.3,
    ))
    (lead row (i + 1) (worse row i best b) bs)

-- the scan takes that bound
taken_is : (row : List ℤ) (bs : List Bound) → pos 0 <ℤ (worst row bs).1 → Taken row bs (worst row bs).0
taken_is row bs h =
    let w : _ = worst_is row bs h in
    record {
      within = w.0;
      broken = omega (arith, ints, w.1, h);
      most = λ q l. omega (arith, ints, w.1, bounds row 0 (0, pos 0) bs q l);
      first = λ q l. ⊎_elim
          (λ e. absurd (let z : (worst row bs).1 ≡ pos 0 = ap (λ y. y.1) e in omega (arith, ints)))
          (λ f. omega (arith, ints, w.1, f.3 q (omega (arith, l, f.1))))
          (lead row 0 (0, pos 0) bs);
    }

-- so it is what the scan finds
pub worst_taken : (row : List ℤ) (bs : List Bound) (p : ℕ) (far : ℤ) → far ≡ excess row (at bs p) → Taken row bs p → (p, far) ≡ worst row bs
worst_taken row bs p far e t =
    let h : pos 0 <ℤ (worst row bs).1 = omega (arith, ints, t.broken, bounds row 0 (0, pos 0) bs p t.within) in
    let same : p ≡ (worst row bs).0 = taken_one row bs p (worst row bs).0 t (taken_is row bs h) in
    let far_is : far ≡ (worst row bs).1 = e ∙ ap (λ q. excess row (at bs q)) same ∙ sym (worst_is row bs h).1 in
    ap (λ q. (q, far)) same ∙ ap (λ z. ((worst row bs).0, z)) far_is

-- and where no bound is broken it finds none
pub worst_none : (row : List ℤ) (bs : List Bound) → Each (λ b. excess row b ≤ℤ pos 0) bs → (0, pos 0) ≡ worst row bs
worst_none row bs h =
    ⊎_elim sym
    (λ f. let w : _ = worst_is row bs f.2 in absurd (omega (arith, ints, f.2, w.1, h (worst row bs).0 w.0)))
    (lead row 0 (0, pos 0) bs)
