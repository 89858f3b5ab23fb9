-- Renaming the labels of a row into the next one, term by term. Assumes nothing.
use Rattle.std.proofs.Common.{◌≡◌, ℕ, ◌+◌, ◌<◌, List, [], length, get_or, set, sym, refl, ap, ◌∙◌, ⊎_elim, arith}
use Rattle.std.proofs.lemmas.Bool.{cases_eq}
use Rattle.std.proofs.lemmas.List.{get_or-set_same, get_or-set_other, length-set}
use Rattle.congruence.specs.Merges.{relabel}
use Rattle.equality.specs.Logs.{cell, Renamed}

pub renamed_none : (rows : List (List ℕ)) (k high low : ℕ) → Renamed rows rows k 0 high low
renamed_none rows k high low = record {
  long = refl;
  written = λ t l. absurd (omega (arith, l));
  beyond = λ t l. refl;
  kept = λ j t ne. refl;
}

module _ (rows rows' : List (List ℕ)) (k t high low x : ℕ) (room : k + 1 < length rows) where
  -- the next row with one label more
  abbrev pub wrote : List (List ℕ)
  wrote = set rows' (k + 1) (set (get_or rows' (k + 1) []) t x)

  row_is : Renamed rows rows' k t high low → get_or wrote (k + 1) [] ≡ set (get_or rows' (k + 1) []) t x
  row_is w = get_or-set_same rows' (k + 1) (set (get_or rows' (k + 1) []) t x) [] (omega (arith, room, w.long))

  pub still_wide : Renamed rows rows' k t high low → length (get_or rows' (k + 1) []) ≡ 256 → length (get_or wrote (k + 1) []) ≡ 256
  still_wide w e = ap length (row_is w) ∙ length-set (get_or rows' (k + 1) []) t x ∙ e

  other_cell : Renamed rows rows' k t high low → (u : ℕ) → (u ≡ t → ⊥) → cell wrote (k + 1) u ≡ cell rows' (k + 1) u
  other_cell w u ne = ap (λ (r : List ℕ). get_or r u 0) (row_is w) ∙ get_or-set_other (get_or rows' (k + 1) []) t u x 0 ne

  pub renamed_more : t < length (get_or rows' (k + 1) []) → x ≡ relabel high low (cell rows' k t) → Renamed rows rows' k t high low → Renamed rows wrote k (t + 1) high low
  renamed_more wide is w = record {
    long = length-set rows' (k + 1) (set (get_or rows' (k + 1) []) t x) ∙ w.long;
    written = λ u l. ⊎_elim
        (λ (e : u ≡ t).
        ap (cell wrote (k + 1)) e ∙ ap (λ (r : List ℕ). get_or r t 0) (row_is w) ∙ get_or-set_same (get_or rows' (k + 1) []) t x 0 wide ∙ is
        ∙ ap (relabel high low) (w.kept k t (λ z. omega (arith, z)) ∙ ap (cell rows k) (sym e)))
        (λ (ne : u ≡ t → ⊥). other_cell w u ne ∙ w.written u (omega (arith, l, ne)))
        (cases_eq u t);
    beyond = λ u l. other_cell w u (λ e. omega (arith, e, l)) ∙ w.beyond u (omega (arith, l));
    kept = λ j u ne. ap (λ (r : List ℕ). get_or r u 0) (get_or-set_other rows' (k + 1) j (set (get_or rows' (k + 1) []) t x) [] ne) ∙ w.kept j u ne;
  }
