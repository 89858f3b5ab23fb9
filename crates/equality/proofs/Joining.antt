-- The merge at which two terms met, by a search over the rows of labels. Assumes nothing.
use Rattle.std.proofs.Common.{◌≡◌, ℕ, ◌+◌, ◌-◌, ◌<◌, ◌≤◌, Bool, true, false, not, eqb, List, [], length, get_or, take, drop, sym, ap, ◌∙◌, subst, ⊎_elim, arith, get_or-take}
use Rattle.std.proofs.lemmas.Bool.{cases_eq, cases_lt, cases_Bool, eq-eqb, eqb-true, not-false, not_from_true, true≢false}
use Rattle.std.proofs.lemmas.Grind.{get_or_after_one}
use Rattle.std.proofs.lemmas.List.{get_or_default, length-take-le, length-drop}
use Rattle.std.specs.List.Sorted.{IsPartitionedBy, IsPartitionPoint}
use Rattle.congruence.specs.declared.step.Step.{Step}
use Rattle.equality.specs.Logs.{label_at, cell, Tabled}
use Rattle.equality.specs.Marked.{Joins}
use Rattle.equality.proofs.Marking.{stay}

-- two labels of a row differ
abbrev pub differ : ℕ → ℕ → List ℕ → Bool
differ t u row = not (eqb (get_or row t 0) (get_or row u 0))

-- the rows after each of the first `n` merges
abbrev pub rows_after : List (List ℕ) → ℕ → List (List ℕ)
rows_after rows n = take ((n + 1) - 1) (drop 1 rows)

module _ (ss : List Step) (rows : List (List ℕ)) (t u n : ℕ) (tabled : Tabled rows ss) (long : length ss < length rows) (few : n ≤ length ss) (ht : t < 256) (hu : u < 256) where
  size : length (rows_after rows n) ≡ n
  size = length-take-le ((n + 1) - 1) (drop 1 rows) (omega (arith, length-drop 1 rows, long)) ∙ (let e : (n + 1) - 1 ≡ n = omega arith in e)

  row : (i : ℕ) (d : List ℕ) → i < n → get_or (rows_after rows n) i d ≡ get_or rows (i + 1) []
  row i d h =
      get_or-take ((n + 1) - 1) (drop 1 rows) i d (omega arith) ∙ get_or_after_one rows i d ∙ get_or_default rows (1 + i) d [] (omega (arith, long))
      ∙ ap (λ (k : ℕ). get_or rows k []) (let e : 1 + i ≡ i + 1 = omega arith in e)

  test : (i : ℕ) (d : List ℕ) → i < n → differ t u (get_or (rows_after rows n) i d) ≡ not (eqb (label_at ss (i + 1) t) (label_at ss (i + 1) u))
  test i d h =
      ap (differ t u) (row i d h)
      ∙ ap (λ (x : ℕ). not (eqb x (cell rows (i + 1) u))) (tabled (i + 1) t (omega arith) ht)
      ∙ ap (λ (x : ℕ). not (eqb (label_at ss (i + 1) t) x)) (tabled (i + 1) u (omega arith) hu)

  same : (i : ℕ) (d : List ℕ) → i < n → differ t u (get_or (rows_after rows n) i d) ≡ false → label_at ss (i + 1) t ≡ label_at ss (i + 1) u
  same i d h e = eqb-true _ _ (not-false _ (sym (test i d h) ∙ e))

  other : (i : ℕ) (d : List ℕ) → i < n → differ t u (get_or (rows_after rows n) i d) ≡ true → label_at ss (i + 1) t ≡ label_at ss (i + 1) u → ⊥
  other i d h e q = true≢false (sym (sym (test i d h) ∙ e) ∙ not_from_true _ (eq-eqb _ _ q))

  -- two terms of one class stay so
  pub parted : IsPartitionedBy (differ t u) (rows_after rows n)
  parted i j d a b e = ⊎_elim
      (λ q. q)
      (λ q. absurd (other j d (omega (arith, size)) e (stay ss t u (i + 1) (j + 1) (omega arith) (same i d (omega (arith, size)) q))))
      (cases_Bool (differ t u (get_or (rows_after rows n) i d)))

  module _ (apart : t ≡ u → ⊥) (together : label_at ss n t ≡ label_at ss n u) (r : ℕ) (low : r ≤ length (rows_after rows n))
      (point : IsPartitionPoint (λ x. differ t u x ≡ true) (λ x. differ t u x ≡ false) (rows_after rows n) r) where
    pub below : r < n
    below = ⊎_elim
        (λ (h : r < n). h)
        (λ (h : n ≤ r). ⊎_elim
        (λ (z : n ≡ 0). absurd (apart (subst (λ (k : ℕ). label_at ss k t ≡ label_at ss k u) z together)))
        (λ (z : n ≡ 0 → ⊥).
        let e : (n - 1) + 1 ≡ n = omega arith in
        absurd (other (n - 1) [] (omega arith) (point.0 (n - 1) [] (omega arith) (omega arith)) (subst (λ (k : ℕ). label_at ss k t ≡ label_at ss k u) (sym e) together)))
        (cases_eq n 0))
        (cases_lt r n)

    pub joins : Joins ss t u r
    joins = record {
      apart = ⊎_elim
          (λ (z : r ≡ 0) e. apart (subst (λ (k : ℕ). label_at ss k t ≡ label_at ss k u) z e))
          (λ (z : r ≡ 0 → ⊥) e.
          let q : (r - 1) + 1 ≡ r = omega arith in
          other (r - 1) [] (omega (arith, below)) (point.0 (r - 1) [] (omega arith) (omega arith)) (subst (λ (k : ℕ). label_at ss k t ≡ label_at ss k u) (sym q) e))
          (cases_eq r 0);
      together = same r [] below (point.1 r [] (omega arith) (omega (arith, below, size)));
    }
