-- What stands at a position, read where the oldest entry is first. Assumes nothing.
use Rattle.std.proofs.Common.{◌≡◌, ℕ, ◌+◌, ◌<◌, ◌≤◌, cond, eqb, ltb, ◌≢◌, List, [], ◌∷◌, ◌++◌, length, slice_get, get_or, take, reverse, Option, Some, None, Bor, sym, refl, ap, ◌∙◌, ⊎_elim, arith}
use Rattle.std.proofs.lemmas.Bool.{cases_lt, cases_eq, eq-eqb, ne_eqb, ltb-true, ltb-false}
use Rattle.std.proofs.lemmas.List.{reverse-append, reverse-reverse, length-reverse, take_all, take-append-le, get_or_append_left, get_or_push}
use Rattle.std.proofs.lemmas.Option.{slice_get_past, slice_get_read, slice_get-get_or}
use Rattle.std.specs.Option.{is_some, option_copied, unwrap_or}
use Rattle.rules.specs.declared.entry.Entry.{Entry}
use Rattle.rules.specs.States.{level}
use Rattle.trail.specs.Positions.{entry_at, level_at}
use Rattle.trail.specs.Kept.{Leveled}

-- what `get` and `copied` read of a list
pub read_at : {V : Type 0} (xs : List V) (i : ℕ) (r : Option (Bor V)) → is_some r ≡ ltb i (length xs) → ((d : V) → unwrap_or (option_copied r) d ≡ get_or xs i d)
    → option_copied r ≡ slice_get xs i
read_at xs i None e f = sym (slice_get_past xs i (ltb-false i (length xs) (sym e)))
read_at xs i (Some x) e f = sym (slice_get_read xs (length xs) i x.now refl (ltb-true i (length xs) (sym e)) (f x.now))

-- a choice at a position
chosen : {V : Type 0} (p n : ℕ) (a b : V) → p ≡ n → cond (eqb p n) a b ≡ a
chosen p n a b e = rw (eq-eqb p n e)

passed : {V : Type 0} (p n : ℕ) (a b : V) → p ≢ n → cond (eqb p n) a b ≡ b
passed p n a b e = rw (ne_eqb p n e)

-- at a position below its length a trail has what a function gives of the trail from there back
entry_within : (t : List Entry) (p : ℕ) (d : Entry) → p < length t → entry_at t p ≡ Some (get_or (reverse t) p d)
entry_within [] p d h = absurd (omega arith)
entry_within (e ∷ t) p d h =
    ⊎_elim
    (λ (q : p ≡ length t).
    chosen p (length t) (Some e) (entry_at t p) q ∙ ap Some (sym (get_or_push (reverse t) e d p (omega (arith, length-reverse t)))) ∙ ap (λ es. Some (get_or es p d)) (sym turned))
    (λ (q : p ≢ length t).
    passed p (length t) (Some e) (entry_at t p) q ∙ entry_within t p d (omega arith)
    ∙ ap Some (sym (get_or_append_left (reverse t) (e ∷ []) d p (omega (arith, length-reverse t)))) ∙ ap (λ es. Some (get_or es p d)) (sym turned))
    (cases_eq p (length t))
  where
    turned : reverse (e ∷ t) ≡ reverse t ++ e ∷ []
    turned = reverse-append (e ∷ []) t

level_within : (t : List Entry) (p : ℕ) → p < length t → level_at t p ≡ Some (level (reverse (take (p + 1) (reverse t))))
level_within [] p h = absurd (omega arith)
level_within (e ∷ t) p h =
    ⊎_elim
    (λ (q : p ≡ length t).
    chosen p (length t) (Some (level (e ∷ t))) (level_at t p) q
    ∙ ap (λ es. Some (level es)) (sym (ap reverse (take_all (p + 1) (reverse (e ∷ t)) (omega (arith, length-reverse (e ∷ t)))) ∙ reverse-reverse (e ∷ t))))
    (λ (q : p ≢ length t).
    passed p (length t) (Some (level (e ∷ t))) (level_at t p) q ∙ level_within t p (omega arith)
    ∙ ap (λ es. Some (level (reverse es))) (sym (ap (take (p + 1)) (reverse-append (e ∷ []) t) ∙ take-append-le (p + 1) (reverse t) (e ∷ []) (omega (arith, length-reverse t)))))
    (cases_eq p (length t))

entry_past : (t : List Entry) (p : ℕ) → length t ≤ p → entry_at t p ≡ None
entry_past [] p h = refl
entry_past (e ∷ t) p h = passed p (length t) (Some e) (entry_at t p) (λ q. omega arith) ∙ entry_past t p (omega arith)

level_past : (t : List Entry) (p : ℕ) → length t ≤ p → level_at t p ≡ None
level_past [] p h = refl
level_past (e ∷ t) p h = passed p (length t) (Some (level (e ∷ t))) (level_at t p) (λ q. omega arith) ∙ level_past t p (omega arith)

pub entry_turned : (es : List Entry) (p : ℕ) → entry_at (reverse es) p ≡ slice_get es p
entry_turned [] p = sym (slice_get_past [] p (omega arith))
entry_turned (d ∷ ds) p =
    let es = d ∷ ds in
    ⊎_elim
    (λ (h : p < length es). entry_within (reverse es) p d (omega (arith, length-reverse es)) ∙ ap (λ xs. Some (get_or xs p d)) (reverse-reverse es) ∙ sym (slice_get-get_or es p d h))
    (λ (h : length es ≤ p). entry_past (reverse es) p (omega (arith, length-reverse es)) ∙ sym (slice_get_past es p h))
    (cases_lt p (length es))

pub level_turned : (levels : List ℕ) (es : List Entry) (p : ℕ) → length levels ≡ length es → Leveled levels es → level_at (reverse es) p ≡ slice_get levels p
level_turned levels es p each leveled =
    ⊎_elim
    (λ (h : p < length es).
    level_within (reverse es) p (omega (arith, length-reverse es)) ∙ ap (λ xs. Some (level (reverse (take (p + 1) xs)))) (reverse-reverse es)
    ∙ ap Some (sym (leveled p h)) ∙ sym (slice_get-get_or levels p 0 (omega arith)))
    (λ (h : length es ≤ p). level_past (reverse es) p (omega (arith, length-reverse es)) ∙ sym (slice_get_past levels p (omega arith)))
    (cases_lt p (length es))
