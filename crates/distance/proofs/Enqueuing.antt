-- The bounds with one base, in turn. Assumes nothing.
use Rattle.std.proofs.Common.{◌≡◌, ℕ, ◌<◌, true, cond, eqb, List, ◌∷◌, ◌++◌, length, ℤ, filter, sym, refl, ap, ◌∙◌, arith}
use Rattle.std.proofs.lemmas.Bool.{or_left, or_right, eq-eqb}
use Rattle.std.proofs.lemmas.List.{length-append}
use Rattle.std.proofs.lemmas.List.Elements.{filter-append}
use Rattle.theory.specs.Literals.{has}
use Rattle.difference.specs.declared.bound.Bound.{Bound}
use Rattle.distance.specs.Index.{based}
use Rattle.distance.specs.Queue.{breaks, broken_on}
use Rattle.distance.proofs.Waiting.{has_append, based_only}

module _ (bs : List Bound) (x : ℕ) (ys zs : List ℕ) (q : ℕ) (whole : ys ++ q ∷ zs ≡ based bs x (length bs)) where
  pub turn_within : q < length bs
  turn_within =
      let h : has (based bs x (length bs)) q ≡ true =
      ap (λ l. has l q) (sym whole) ∙ has_append ys (q ∷ zs) q ∙ or_right (has ys q) (has (q ∷ zs) q) (or_left (eqb q q) (has zs q) (eq-eqb q q refl)) in
      (based_only bs x (length bs) q h).0

  -- one that is broken is not among the broken ones so far
  pub turn_room : (row : List ℤ) → breaks row bs q ≡ true → length (filter (breaks row bs) ys) < length (broken_on row bs x)
  turn_room row t =
      let later : filter (breaks row bs) (q ∷ zs) ≡ q ∷ filter (breaks row bs) zs = ap (λ b. cond b (q ∷ filter (breaks row bs) zs) (filter (breaks row bs) zs)) t in
      omega (arith, ap length (ap (filter (breaks row bs)) (sym whole) ∙ filter-append (breaks row bs) ys (q ∷ zs) ∙ ap (λ l. filter (breaks row bs) ys ++ l) later), length-append (filter (breaks row bs) ys) (q ∷ filter (breaks row bs) zs))
