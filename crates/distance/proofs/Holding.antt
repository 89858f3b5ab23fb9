-- What a table of bounds holds, with one bound more, or cut short. Assumes nothing.
use Rattle.std.proofs.Common.{◌≡◌, ℕ, ◌+◌, ◌-◌, ◌*◌, ◌<◌, ◌≤◌, min, Bool, true, List, [], ◌∷◌, ◌++◌, length, take, drop, replicate, ℤ, pos, vec_items, sym, ap, ◌∙◌, subst, ⊎_elim, mul-le-mul_right, add-mul, arith, take-append-drop}
use Rattle.std.proofs.lemmas.List.{length_push, take_all, take-take, take-append-le, length-take-le, take-replicate, length-replicate, length-drop}
use Rattle.std.proofs.lemmas.List.Elements.{recursion_from_All}
use Rattle.std.proofs.lemmas.Slice.{between_is}
use Rattle.std.proofs.lemmas.Bool.{cases_lt}
use Rattle.theory.specs.Literals.{has}
use Rattle.theory.specs.Positions.{marked}
use Rattle.theory.proofs.Answers.{rising_below}
use Rattle.theory.proofs.Positions.{all_has}
use Rattle.difference.specs.declared.bound.Bound.{Bound}
use Rattle.difference.specs.Bounds.{Named, Core}
use Rattle.difference.specs.Settling.{fits, clash, outcome}
use Rattle.difference.proofs.Outcome.{Good}
use Rattle.difference.proofs.Whole.{outcome_good, outcome_none}
use Rattle.difference.proofs.Depth.{clash_stays}
use Rattle.distance.specs.declared.bounds.Bounds.{Bounds}
use Rattle.distance.specs.declared.table.Table.{Table}
use Rattle.distance.specs.Rows.{part, Possible, Broken}
use Rattle.distance.proofs.Indexing.{each_take}

-- the rows of the possible prefixes, and the marks, of bounds on m terms with room for `most`
pub record Held (m most : ℕ) (bs : List Bound) (rows : List ℤ) (good : ℕ) (marks : List Bool) : Type 0 where
  pub fits_in : length bs ≤ most
  pub reached : good ≤ length bs
  pub possible : Possible m bs rows good
  pub broken : Broken m bs good marks
  pub row_each : length rows ≡ most * m + m
  pub mark_each : length marks ≡ most

pub held : (t : Table) → Held t.work.bounds.terms (length (vec_items t.work.bounds.nexts)) (vec_items t.work.bounds.items) (vec_items t.rows) t.good (vec_items t.marks)
held t = record { fits_in = t.work.bounds.fits; reached = t.reached; possible = t.possible; broken = t.broken; row_each = t.row_each; mark_each = t.mark_each }

pub held_as : (b : Bounds) {m most : ℕ} {bs : List Bound} (rows : List ℤ) (good : ℕ) (marks : List Bool) → b.terms ≡ m → length (vec_items b.nexts) ≡ most → vec_items b.items ≡ bs
    → Held m most bs rows good marks → Held b.terms (length (vec_items b.nexts)) (vec_items b.items) rows good marks
held_as b {m} {most} {bs} rows good marks em en eb h =
    subst (λ z. Held b.terms (length (vec_items b.nexts)) z rows good marks) (sym eb)
    (subst (λ z. Held b.terms z bs rows good marks) (sym en) (subst (λ z. Held z most bs rows good marks) (sym em) h))

-- rows that agree up to row n have the same rows below n
same_part : (m n i : ℕ) (rows rows' : List ℤ) → i < n → take (n * m) rows' ≡ take (n * m) rows → part m i rows' ≡ part m i rows
same_part m n i rows rows' h e =
    let far : i * m + m ≤ n * m = omega (arith, add-mul i 1 m, mul-le-mul_right {m = i + 1} {n = n} m (omega arith)) in
    let open_up : (xs : List ℤ) → take m (drop (i * m) xs) ≡ drop (i * m) (take (i * m + m) (take (n * m) xs)) = λ xs.
    (let w : m ≡ (i * m + m) - i * m = omega arith in ap (λ k. take k (drop (i * m) xs)) w)
    ∙ between_is xs (i * m) (i * m + m) ∙ ap (drop (i * m)) (sym (take-take (i * m + m) (n * m) xs far)) in
    open_up rows' ∙ ap (λ z. drop (i * m) (take (i * m + m) z)) e ∙ sym (open_up rows)

-- ---- one bound more

module _ (m most : ℕ) (bs : List Bound) (rows : List ℤ) (good : ℕ) (marks : List Bool) (b : Bound)
    (h : Held m most bs rows good marks) (free : length bs < most) where
  longer : length (bs ++ b ∷ []) ≡ length bs + 1
  longer = length_push bs b

  front : (i : ℕ) → i ≤ length bs → take i (bs ++ b ∷ []) ≡ take i bs
  front i l = take-append-le i bs (b ∷ []) l

  row_at : (i : ℕ) → i ≤ good → outcome m (take i (bs ++ b ∷ [])) ≡ fits (part m i rows)
  row_at i l =
      let e : min i good ≡ i = omega arith in
      ap (outcome m) (front i (omega (arith, l, h.reached)))
      ∙ ap (λ k. outcome m (take k bs)) (sym e) ∙ h.possible i ∙ ap (λ k. fits (part m k rows)) e

  module _ (all : good ≡ length bs) where
    -- there is a row for all
    pub next_in : (good * m + m) + m ≤ length rows
    next_in = omega (arith, h.row_each, add-mul good 1 m, mul-le-mul_right {m = good + 1} {n = most} m (omega (arith, all, free)))

    whole : take (good + 1) (bs ++ b ∷ []) ≡ bs ++ b ∷ []
    whole = take_all (good + 1) (bs ++ b ∷ []) (omega (arith, all, longer))

    -- it is possible with the bound
    pub held_fits : (rows' : List ℤ) → take ((good + 1) * m) rows' ≡ take ((good + 1) * m) rows → length rows' ≡ length rows → outcome m (bs ++ b ∷ []) ≡ fits (part m (good + 1) rows')
        → Held m most (bs ++ b ∷ []) rows' (good + 1) marks
    held_fits rows' kept long o = record {
      fits_in = omega (arith, longer, free);
      reached = omega (arith, all, longer);
      possible = λ j. ⊎_elim
          (λ l. let i : min j (good + 1) ≤ good = omega arith in
          row_at (min j (good + 1)) i ∙ ap fits (sym (same_part m (good + 1) (min j (good + 1)) rows rows' (omega (arith, i)) kept)))
          (λ l. let e : min j (good + 1) ≡ good + 1 = omega arith in
          ap (λ k. outcome m (take k (bs ++ b ∷ []))) e ∙ ap (outcome m) whole ∙ o ∙ ap (λ k. fits (part m k rows')) (sym e))
          (cases_lt j (good + 1));
      broken = λ l. absurd (omega (arith, l, all, longer));
      row_each = long ∙ h.row_each;
      mark_each = h.mark_each;
    }

    -- it is not
    pub held_clash : (marks' : List Bool) → length marks' ≡ length marks → outcome m (bs ++ b ∷ []) ≡ clash (marked marks') → Held m most (bs ++ b ∷ []) rows good marks'
    held_clash marks' long o = record {
      fits_in = omega (arith, longer, free);
      reached = omega (arith, all, longer);
      possible = λ j. row_at (min j good) (omega arith);
      broken = λ _. ap (outcome m) whole ∙ o;
      row_each = h.row_each;
      mark_each = long ∙ h.mark_each;
    }

-- ---- a shorter list

module _ (m most : ℕ) (bs : List Bound) (rows : List ℤ) (good : ℕ) (marks : List Bool) (h : Held m most bs rows good marks) where
  row_of : (i : ℕ) → i ≤ good → outcome m (take i bs) ≡ fits (part m i rows)
  row_of i l = let e : min i good ≡ i = omega arith in ap (λ k. outcome m (take k bs)) (sym e) ∙ h.possible i ∙ ap (λ k. fits (part m k rows)) e

  -- cut to the first k
  pub held_cut : (k : ℕ) → k ≤ length bs → Held m most (take k bs) rows (min k good) marks
  held_cut k l =
      let long : length (take k bs) ≡ k = length-take-le k bs l in
      record {
        fits_in = omega (arith, long, l, h.fits_in);
        reached = omega (arith, long);
        possible = λ j.
            ap (outcome m) (take-take (min j (min k good)) k bs (omega arith)) ∙ row_of (min j (min k good)) (omega arith);
        broken = λ lt.
            let g : min k good ≡ good = omega (arith, lt, long) in
            ap (λ z. outcome m (take (z + 1) (take k bs))) g
            ∙ ap (outcome m) (take-take (good + 1) k bs (omega (arith, lt, long, g))) ∙ h.broken (omega (arith, lt, long, g, l));
        row_each = h.row_each;
        mark_each = h.mark_each;
      }

  pub all_possible : good ≡ length bs → outcome m bs ≡ fits (part m good rows)
  all_possible e = ap (outcome m) (sym (take_all good bs (omega (arith, e)))) ∙ row_of good (omega arith)

  pub not_possible : good < length bs → outcome m bs ≡ clash (marked marks)
  not_possible l =
      ap (outcome m) (sym (take-append-drop (good + 1) bs))
      ∙ clash_stays m (take (good + 1) bs) (drop (good + 1) bs) (marked marks) (h.broken l)

  -- each position of the core is at most that of the first bound that is impossible with those before it
  pub core_front : Named m bs → good < length bs → (q : ℕ) → has (marked marks) q ≡ true → q < good + 1
  core_front named l q t =
      let front = take (good + 1) bs in
      let long : length front ≡ good + 1 = length-take-le (good + 1) bs (omega (arith, l)) in
      let g : Core front (marked marks) = subst (Good m front) (h.broken l)
      (outcome_good m front (each_take (λ b. (b.term < m) × (b.base < m)) bs (good + 1) (omega (arith, l)) named)) in
      let i : q < length front = all_has (λ p. p < length front) (marked marks)
      (recursion_from_All (λ p. p < length front) (marked marks) (rising_below (length front) (marked marks) g.rises)) q t in
      omega (arith, i, long)

  pub row_in : good * m + m ≤ length rows
  row_in = omega (arith, h.row_each, mul-le-mul_right {m = good} {n = most} m (omega (arith, h.reached, h.fits_in)))

  pub part_long : length (part m good rows) ≡ m
  part_long = length-take-le m (drop (good * m) rows) (omega (arith, row_in, length-drop (good * m) rows))

-- ---- no bound

pub held_none : (m most : ℕ) (bs : List Bound) (rows : List ℤ) (marks : List Bool) → bs ≡ [] → rows ≡ replicate (most * m + m) (pos 0) → length marks ≡ most → Held m most bs rows 0 marks
held_none m most bs rows marks eb er lc =
    let base : Held m most [] (replicate (most * m + m) (pos 0)) 0 marks = record {
      fits_in = omega arith;
      reached = omega arith;
      possible = λ j.
          let z : min j 0 ≡ 0 = omega arith in
          ap (λ k. outcome m (take k [])) z ∙ outcome_none m
          ∙ ap fits (sym (take-replicate m (most * m + m) (pos 0) (omega arith)))
          ∙ (let y : 0 ≡ min j 0 * m = omega (arith, ap (λ k. k * m) z) in ap (λ k. fits (take m (drop k (replicate (most * m + m) (pos 0))))) y);
      broken = λ l. absurd (omega (arith, l));
      row_each = length-replicate (most * m + m) (pos 0);
      mark_each = lc;
    } in
    subst (λ z. Held m most z rows 0 marks) (sym eb) (subst (λ z. Held m most [] z 0 marks) (sym er) base)
