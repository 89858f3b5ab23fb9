-- A loop through a queue that finds the bound broken most. Assumes nothing.
use Rattle.std.proofs.Common.{◌≡◌, ℕ, ◌+◌, ◌<◌, ◌≤◌, true, false, ◌⊎◌, List, [], ◌∷◌, ◌++◌, length, get_or, take, ℤ, pos, ◌≤ℤ◌, ◌<ℤ◌, Option, Some, None, sym, refl, ap, ◌∙◌, subst, inl, inr, ⊎_elim, arith}
use lib.Signed.{lt_z}
use Rattle.std.specs.List.{AllByRecursion}
use Rattle.std.proofs.lemmas.Int.{ints}
use Rattle.std.proofs.ByRecursion.{All-push, All-weaker}
use Rattle.std.proofs.lemmas.List.{take_more}
use Rattle.std.proofs.lemmas.Bool.{cases_Bool}
use Rattle.theory.proofs.Positions.{all_has}
use Rattle.difference.specs.declared.bound.Bound.{Bound}
use Rattle.difference.specs.Bounds.{at}
use Rattle.difference.specs.Settling.{excess}
use Rattle.difference.proofs.Worst.{worst_taken, worst_none}
use Rattle.distance.specs.Queue.{Covers, Leading, Picked}

-- of some positions, that of the bound broken most, the first of several, and how far it is broken
pub record Worst (row : List ℤ) (bs : List Bound) (qs : List ℕ) (p : ℕ) (far : ℤ) : Type 0 where
  pub broken : pos 0 <ℤ far
  pub within : p < length bs
  pub far_is : far ≡ excess row (at bs p)
  pub most : AllByRecursion (λ q. excess row (at bs q) ≤ℤ far) qs
  pub first : AllByRecursion (λ q. excess row (at bs q) ≡ far → p ≤ q) qs

-- the same, or that none of them is broken
abbrev pub Best : List ℤ → List Bound → List ℕ → Option (ℕ × ℤ) → Type 0
Best row bs qs None = AllByRecursion (λ q. excess row (at bs q) ≤ℤ pos 0) qs
Best row bs qs (Some w) = Worst row bs qs w.0 w.1

-- one that is not broken
best_past : (row : List ℤ) (bs : List Bound) (qs : List ℕ) (q : ℕ) (best : Option (ℕ × ℤ)) → excess row (at bs q) ≤ℤ pos 0 → Best row bs qs best → Best row bs (qs ++ q ∷ []) best
best_past row bs qs q None h b = All-push (λ k. excess row (at bs k) ≤ℤ pos 0) qs q b h
best_past row bs qs q (Some w) h b = record {
  broken = b.broken;
  within = b.within;
  far_is = b.far_is;
  most = All-push (λ k. excess row (at bs k) ≤ℤ w.1) qs q b.most (omega (arith, ints, h, b.broken));
  first = All-push (λ k. excess row (at bs k) ≡ w.1 → w.0 ≤ k) qs q b.first (λ e. absurd (omega (arith, ints, h, b.broken, e)));
}

all_both : (P Q R : ℕ → Type 0) → ((k : ℕ) → P k → Q k → R k) → (ks : List ℕ) → AllByRecursion P ks → AllByRecursion Q ks → AllByRecursion R ks
all_both P Q R f [] a b = tt
all_both P Q R f (k ∷ ks) a b = (f k a.0 b.0, all_both P Q R f ks a.1 b.1)

-- one that is
best_more : (row : List ℤ) (bs : List Bound) (qs : List ℕ) (q : ℕ) (over : ℤ) (best : Option (ℕ × ℤ)) (r : ℕ × ℤ) → pos 0 <ℤ over → q < length bs → over ≡ excess row (at bs q) → Leading best (q, over) r → Best row bs qs best → Best row bs (qs ++ q ∷ []) (Some r)
best_more row bs qs q over None r h within e l b =
    let r_is : r ≡ (q, over) = ⊎_elim (λ a. a) (λ a. absurd (cc)) l.one in
    record {
      broken = omega (arith, ints, h, l.most);
      within = subst (λ z. z.0 < length bs) (sym r_is) within;
      far_is = subst (λ z. z.1 ≡ excess row (at bs z.0)) (sym r_is) e;
      most = All-push (λ k. excess row (at bs k) ≤ℤ r.1) qs q
          (All-weaker (λ k. excess row (at bs k) ≤ℤ pos 0) (λ k. excess row (at bs k) ≤ℤ r.1) (λ k a. omega (arith, ints, a, h, l.most)) qs b)
          (omega (arith, ints, e, l.most));
      first = All-push (λ k. excess row (at bs k) ≡ r.1 → r.0 ≤ k) qs q
          (All-weaker (λ k. excess row (at bs k) ≤ℤ pos 0) (λ k. excess row (at bs k) ≡ r.1 → r.0 ≤ k) (λ k a f. absurd (omega (arith, ints, a, h, l.most, f))) qs b)
          (λ f. l.first (e ∙ f));
    }
best_more row bs qs q over (Some w) r h within e l b =
    let more : w.1 ≤ℤ r.1 = l.no_less w refl in
    record {
      broken = omega (arith, ints, h, l.most);
      within = ⊎_elim (λ a. subst (λ z. z.0 < length bs) (sym a) within) (λ a. let s : w ≡ r = cc in subst (λ z. z.0 < length bs) s b.within) l.one;
      far_is = ⊎_elim (λ a. subst (λ z. z.1 ≡ excess row (at bs z.0)) (sym a) e) (λ a. let s : w ≡ r = cc in subst (λ z. z.1 ≡ excess row (at bs z.0)) s b.far_is) l.one;
      most = All-push (λ k. excess row (at bs k) ≤ℤ r.1) qs q
          (All-weaker (λ k. excess row (at bs k) ≤ℤ w.1) (λ k. excess row (at bs k) ≤ℤ r.1) (λ k a. omega (arith, ints, a, more)) qs b.most)
          (omega (arith, ints, e, l.most));
      first = All-push (λ k. excess row (at bs k) ≡ r.1 → r.0 ≤ k) qs q
          (all_both (λ k. excess row (at bs k) ≤ℤ w.1) (λ k. excess row (at bs k) ≡ w.1 → w.0 ≤ k) (λ k. excess row (at bs k) ≡ r.1 → r.0 ≤ k)
          (λ k m f h. let same : w.1 ≡ r.1 = omega (arith, ints, m, h, more) in omega (arith, l.no_later w refl same, f (h ∙ sym same))) qs b.most b.first)
          (λ f. l.first (e ∙ f));
    }

-- ---- along the queue

module _ (row : List ℤ) (bs : List Bound) (qs : List ℕ) (i q : ℕ) (over : ℤ) (best : Option (ℕ × ℤ)) (b : Best row bs (take i qs) best) (l : i < length qs)
    (q_is : q ≡ get_or qs i 0) (over_is : over ≡ excess row (at bs q)) where
  more : take i qs ++ q ∷ [] ≡ take (i + 1) qs
  more = ap (λ k. take i qs ++ k ∷ []) q_is ∙ sym (take_more qs i 0 l)

  pub best_then : lt_z (pos 0) over ≡ true → q < length bs → (r : ℕ × ℤ) → Leading best (q, over) r → Best row bs (take (i + 1) qs) (Some r)
  best_then t within r lead =
      let h : pos 0 <ℤ over = grind (arith, ints) in
      subst (λ z. Best row bs z (Some r)) more (best_more row bs (take i qs) q over best r h within over_is lead b)

  pub best_else : lt_z (pos 0) over ≡ false → Best row bs (take (i + 1) qs) best
  best_else f =
      let h : over ≤ℤ pos 0 = grind (arith, ints) in
      subst (λ z. Best row bs z best) more (best_past row bs (take i qs) q best (omega (arith, ints, h, over_is)) b)

-- ---- at its end

module _ (row : List ℤ) (bs : List Bound) (qs : List ℕ) (covers : Covers row bs qs) where
  -- what holds of each position holds of each bound, if it holds of those that are not broken
  below : (far : ℤ) → pos 0 ≤ℤ far → AllByRecursion (λ q. excess row (at bs q) ≤ℤ far) qs → (q : ℕ) → q < length bs → excess row (at bs q) ≤ℤ far
  below far low most q l =
      ⊎_elim (λ t. all_has (λ k. excess row (at bs k) ≤ℤ far) qs most q (covers q l t))
      (λ t. let h : excess row (at bs q) ≤ℤ pos 0 = grind (arith, ints) in omega (arith, ints, h, low))
      (cases_Bool (lt_z (pos 0) (excess row (at bs q))))

  order : (a b : ℤ) → (a <ℤ b) ⊎ (b ≤ℤ a)
  order a b = ⊎_elim (λ t. inl (grind (arith, ints))) (λ t. inr (grind (arith, ints))) (cases_Bool (lt_z a b))

  before : (p : ℕ) (far : ℤ) → Worst row bs qs p far → (q : ℕ) → q < p → far ≤ℤ excess row (at bs q) → ⊥
  before p far w q l more =
      let k : q < length bs = omega (arith, l, w.within) in
      let h : pos 0 <ℤ excess row (at bs q) = omega (arith, ints, w.broken, more) in
      let t : lt_z (pos 0) (excess row (at bs q)) ≡ true = grind (arith, ints) in
      let same : excess row (at bs q) ≡ far = omega (arith, ints, more, below far (omega (arith, ints, w.broken)) w.most q k) in
      omega (arith, l, all_has (λ n. excess row (at bs n) ≡ far → p ≤ n) qs w.first q (covers q k t) same)

  -- if each broken bound is among them, it is the one that a scan of all bounds finds
  pub best_picked : (best : Option (ℕ × ℤ)) → Best row bs qs best → Picked row bs best
  best_picked None b =
      let e = worst_none row bs (λ q l. below (pos 0) (omega (arith, ints)) b q l) in omega (arith, ints, ap (λ w. w.1) e)
  best_picked (Some w) b =
      let e = worst_taken row bs w.0 w.1 b.far_is (record {
        within = b.within;
        broken = omega (arith, ints, b.broken, b.far_is);
        most = λ q l. omega (arith, ints, below w.1 (omega (arith, ints, b.broken)) b.most q l, b.far_is);
        first = λ q l. ⊎_elim (λ less. less) (λ more. absurd (before w.0 w.1 b q l (omega (arith, ints, more, b.far_is)))) (order (excess row (at bs q)) (excess row (at bs w.0)));
      }) in (e, b.broken)
