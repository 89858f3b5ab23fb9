-- The bounds by their base, with one bound more or fewer. Assumes nothing.
use Rattle.std.proofs.Common.{◌≡◌, ℕ, zero, suc, ◌+◌, ◌-◌, ◌<◌, ◌≤◌, eqb, List, [], ◌∷◌, ◌++◌, length, get_or, take, set, replicate, Option, Some, None, sym, refl, ap, ◌∙◌, subst, ⊎_elim, add-one, arith}
use Rattle.std.specs.List.{AllByRecursion}
use Rattle.std.proofs.ByRecursion.{All-weaker}
use Rattle.std.proofs.lemmas.Bool.{cases_eq, eq-eqb, ne_eqb}
use Rattle.std.proofs.lemmas.List.{get_or-set_same, get_or-set_other, get_or_append_left, get_or_push, get_or-take, get_or-replicate, length-set, length_push, length-take-le, length-replicate}
use Rattle.theory.specs.Positions.{put}
use Rattle.difference.specs.declared.bound.Bound.{Bound}
use Rattle.difference.specs.Bounds.{no_bound, at, Each}
use Rattle.distance.specs.Index.{based, first, onward, Heads, Nexts}

-- the latest of the first k bounds with the base x
abbrev pub latest : List Bound → ℕ → ℕ → Option ℕ
latest bs k x = first (based bs x k)

pub based_here : (bs : List Bound) (k x : ℕ) → (at bs k).base ≡ x → based bs x (k + 1) ≡ k ∷ based bs x k
unfolding based
based_here bs k x e = ap (based bs x) (add-one k) ∙ ap (λ b. put b k (based bs x k)) (eq-eqb (at bs k).base x e)

pub based_past : (bs : List Bound) (k x : ℕ) → ((at bs k).base ≡ x → ⊥) → based bs x (k + 1) ≡ based bs x k
unfolding based
based_past bs k x ne = ap (based bs x) (add-one k) ∙ ap (λ b. put b k (based bs x k)) (ne_eqb (at bs k).base x ne)

-- it depends on the bounds below k only
based_same : (bs cs : List Bound) (k x : ℕ) → ((q : ℕ) → q < k → at bs q ≡ at cs q) → based bs x k ≡ based cs x k
unfolding based
based_same bs cs zero x h = refl
based_same bs cs (suc k) x h =
    ap (λ b. put (eqb b.base x) k (based bs x k)) (h k (omega arith))
    ∙ ap (put (eqb (at cs k).base x) k) (based_same bs cs k x (λ q l. h q (omega arith)))

-- each of them is below k and has that base
pub based_all : (bs : List Bound) (x k : ℕ) → AllByRecursion (λ q. (q < k) × ((at bs q).base ≡ x)) (based bs x k)
unfolding based
based_all bs x zero = tt
based_all bs x (suc k) =
    let later = All-weaker (λ q. (q < k) × ((at bs q).base ≡ x)) (λ q. (q < suc k) × ((at bs q).base ≡ x)) (λ q h. (omega (arith, h.0), h.1)) (based bs x k) (based_all bs x k) in
    ⊎_elim
    (λ e. subst (AllByRecursion (λ q. (q < suc k) × ((at bs q).base ≡ x))) (sym (ap (λ b. put b k (based bs x k)) (eq-eqb (at bs k).base x e))) ((omega arith, e), later))
    (λ ne. subst (AllByRecursion (λ q. (q < suc k) × ((at bs q).base ≡ x))) (sym (ap (λ b. put b k (based bs x k)) (ne_eqb (at bs k).base x ne))) later)
    (cases_eq (at bs k).base x)

-- ---- along the links

-- from the latest on it is all of them
pub onward_latest : (bs : List Bound) (x k : ℕ) → onward bs (latest bs k x) ≡ based bs x k
unfolding based
onward_latest bs x zero = refl
onward_latest bs x (suc k) =
    ⊎_elim
    (λ e. ap (λ b. onward bs (first (put b k (based bs x k)))) (eq-eqb (at bs k).base x e) ∙ ap (λ y. k ∷ based bs y k) e
    ∙ sym (ap (λ b. put b k (based bs x k)) (eq-eqb (at bs k).base x e)))
    (λ ne. ap (λ b. onward bs (first (put b k (based bs x k)))) (ne_eqb (at bs k).base x ne) ∙ onward_latest bs x k
    ∙ sym (ap (λ b. put b k (based bs x k)) (ne_eqb (at bs k).base x ne)))
    (cases_eq (at bs k).base x)

latest_is : (bs : List Bound) (x k q : ℕ) (qs : List ℕ) → AllByRecursion (λ q. (q < k) × ((at bs q).base ≡ x)) qs → first qs ≡ Some q → q < k
latest_is bs x k q [] a e = absurd (cc)
latest_is bs x k q (p ∷ ps) a e = let s : p ≡ q = cc in omega (arith, a.0.0, s)

pub latest_below : (bs : List Bound) (k x q : ℕ) → latest bs k x ≡ Some q → q < k
latest_below bs k x q e = latest_is bs x k q (based bs x k) (based_all bs x k) e

-- ---- no bound

pub heads_none : (m : ℕ) (heads : List (Option ℕ)) → heads ≡ replicate m None → Heads [] 0 heads
unfolding based
heads_none m heads e x h = ap (λ z. get_or z x None) e ∙ get_or-replicate m x None None (omega (arith, h, ap length e, length-replicate {A = Option ℕ} m None))

-- ---- one bound more

module _ (bs : List Bound) (b : Bound) (heads nexts : List (Option ℕ)) (hs : Heads bs (length bs) heads) (ns : Nexts bs nexts)
    (base_in : b.base < length heads) (room : length bs < length nexts) where
  front : (q : ℕ) → q < length bs → at (bs ++ b ∷ []) q ≡ at bs q
  front q l = get_or_append_left bs (b ∷ []) no_bound q l

  here : (at (bs ++ b ∷ []) (length bs)).base ≡ b.base
  here = ap (λ c. c.base) (get_or_push bs b no_bound (length bs) refl)

  pub heads_more : Heads (bs ++ b ∷ []) (length (bs ++ b ∷ [])) (set heads b.base (Some (length bs)))
  heads_more x h =
      ⊎_elim
      (λ (e : x ≡ b.base). ap (λ k. get_or (set heads b.base (Some (length bs))) k None) e ∙ get_or-set_same heads b.base (Some (length bs)) None base_in
      ∙ sym (ap first (based_here (bs ++ b ∷ []) (length bs) x (here ∙ sym e))))
      (λ (ne : x ≡ b.base → ⊥). get_or-set_other heads b.base x (Some (length bs)) None ne
      ∙ hs x (omega (arith, h, length-set heads b.base (Some (length bs))))
      ∙ sym (ap first (based_past (bs ++ b ∷ []) (length bs) x (λ e. ne (sym e ∙ here))) ∙ ap first (based_same (bs ++ b ∷ []) bs (length bs) x front)))
      (cases_eq x b.base)
      ∙ ap (λ n. latest (bs ++ b ∷ []) n x) (sym (length_push bs b))

  pub nexts_more : Nexts (bs ++ b ∷ []) (set nexts (length bs) (get_or heads b.base None))
  nexts_more q h =
      ⊎_elim
      (λ (e : q ≡ length bs). ap (λ k. get_or (set nexts (length bs) (get_or heads b.base None)) k None) e
      ∙ get_or-set_same nexts (length bs) (get_or heads b.base None) None room ∙ hs b.base base_in
      ∙ ap (latest bs (length bs)) (sym here) ∙ sym (ap first (based_same (bs ++ b ∷ []) bs (length bs) _ front))
      ∙ ap (λ n. latest (bs ++ b ∷ []) n (at (bs ++ b ∷ []) n).base) (sym e))
      (λ (ne : q ≡ length bs → ⊥).
      let l : q < length bs = omega (arith, h, ne, length_push bs b) in
      get_or-set_other nexts (length bs) q (get_or heads b.base None) None ne ∙ ns q l
      ∙ ap (λ c. latest bs q c.base) (sym (front q l))
      ∙ sym (ap first (based_same (bs ++ b ∷ []) bs q (at (bs ++ b ∷ []) q).base (λ j i. front j (omega (arith, i, l))))))
      (cases_eq q (length bs))

-- ---- fewer

-- without the bound at q
pub heads_back : (bs : List Bound) (q : ℕ) (heads nexts : List (Option ℕ)) → 0 < q → q ≤ length bs → Heads bs q heads → Nexts bs nexts → (at bs (q - 1)).base < length heads
    → Heads bs (q - 1) (set heads (at bs (q - 1)).base (get_or nexts (q - 1) None))
heads_back bs q heads nexts some within hs ns l x h =
    ⊎_elim
    (λ (e : x ≡ (at bs (q - 1)).base). ap (λ k. get_or (set heads (at bs (q - 1)).base (get_or nexts (q - 1) None)) k None) e
    ∙ get_or-set_same heads (at bs (q - 1)).base (get_or nexts (q - 1) None) None l ∙ ns (q - 1) (omega arith) ∙ ap (latest bs (q - 1)) (sym e))
    (λ (ne : x ≡ (at bs (q - 1)).base → ⊥). get_or-set_other heads (at bs (q - 1)).base x (get_or nexts (q - 1) None) None ne
    ∙ hs x (omega (arith, h, length-set heads (at bs (q - 1)).base (get_or nexts (q - 1) None)))
    ∙ (let z : q ≡ (q - 1) + 1 = omega arith in ap (λ n. latest bs n x) z) ∙ ap first (based_past bs (q - 1) x (λ e. ne (sym e))))
    (cases_eq x (at bs (q - 1)).base)

pub each_take : (P : Bound → Type 0) (bs : List Bound) (k : ℕ) → k ≤ length bs → Each P bs → Each P (take k bs)
each_take P bs k l h p lt =
    let q : p < k = omega (arith, lt, length-take-le k bs l) in
    subst P (sym (get_or-take k bs p no_bound q)) (h p (omega (arith, q)))

module _ (bs : List Bound) (k : ℕ) (l : k ≤ length bs) where
  kept : (q : ℕ) → q < k → at (take k bs) q ≡ at bs q
  kept q h = get_or-take k bs q no_bound h

  pub heads_cut : (heads : List (Option ℕ)) → Heads bs k heads → Heads (take k bs) (length (take k bs)) heads
  heads_cut heads hs x h =
      hs x h ∙ sym (ap first (based_same (take k bs) bs k x kept)) ∙ ap (λ n. latest (take k bs) n x) (sym (length-take-le k bs l))

  pub nexts_cut : (nexts : List (Option ℕ)) → Nexts bs nexts → Nexts (take k bs) nexts
  nexts_cut nexts ns q h =
      let i : q < k = omega (arith, h, length-take-le k bs l) in
      ns q (omega (arith, i, l)) ∙ ap (λ c. latest bs q c.base) (sym (kept q i))
      ∙ sym (ap first (based_same (take k bs) bs q (at (take k bs) q).base (λ j h'. kept j (omega (arith, h', i)))))
