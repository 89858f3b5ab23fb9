-- How low the numbers of an outcome can be, and outcomes of longer lists. Assumes nothing.
use Rattle.std.proofs.Common.{◌≡◌, ℕ, zero, suc, ◌+◌, ◌-◌, ◌*◌, ◌<◌, ◌≤◌, cond, eqb, List, [], ◌∷◌, ◌++◌, length, take, set, replicate, ℤ, pos, ◌≤ℤ◌, ◌<ℤ◌, sym, refl, ap, ◌∙◌, subst, ⊎_elim, append_assoc, append-nil, suc-mul, mul-le-mul, arith}
use lib.Signed.{lt_z}
use Rattle.std.proofs.lemmas.Int.{ints}
use Rattle.std.proofs.lemmas.Bool.{cond_both}
use Rattle.std.proofs.lemmas.List.{length-set, length-replicate, length-append, get_or_append_left, get_or-take, length-take-le, take_more, take_all}
use Rattle.difference.specs.declared.bound.Bound.{Bound}
use Rattle.difference.specs.Bounds.{no_bound, at, Each, Keeps, Named, Greatest}
use Rattle.difference.specs.Settling.{limit, excess, worst, core, Outcome, turn, settle, add, outcome_from, outcome, fits, clash}
use Rattle.difference.specs.Depth.{Small, Inside}
use Rattle.difference.proofs.Worst.{worst_is}
use Rattle.difference.proofs.Settling.{moved}
use Rattle.difference.proofs.Outcome.{Good, Start}
use Rattle.difference.proofs.Whole.{start, num_zeros, outcome_good, outcome_push}

pub inside_on : (k : ℕ) (row : List ℤ) (b : Bound) → Inside k row → (b.base < length row) → Small b → (b.term < length row) → pos 0 <ℤ excess row b → Inside (k + 1) (set row b.term (limit row b))
inside_on k row b h base most term broken x l =
    let l' : x < length row = omega (arith, l, length-set row b.term (limit row b)) in
    let t : _ = h b.term term in
    let u : _ = h b.base base in
    let v : _ = h x l' in
    ⊎_elim
    (λ y. (omega (arith, ints, y.1, u.0, most.0), omega (arith, ints, y.1, broken, t.1)))
    (λ y. (omega (arith, ints, y.1, v.0), omega (arith, ints, y.1, v.1)))
    (moved row b.term (limit row b) term x)

pub inside_weaker : (j k : ℕ) (row : List ℤ) → j ≤ k → Inside j row → Inside k row
inside_weaker j k row h i x l = (omega (arith, ints, (i x l).0), (i x l).1)

-- a fit is no lower than j bounds in a row can make it
abbrev pub Deep : ℕ → ℕ → Outcome → Type 0
Deep m j (fits row) = (length row ≡ m) × Inside j row
Deep m j (clash ps) = Unit {0}

deep_weaker : (m i j : ℕ) (o : Outcome) → i ≤ j → Deep m i o → Deep m j o
deep_weaker m i j (fits row) h d = (d.0, inside_weaker i j row h d.1)
deep_weaker m i j (clash ps) h d = tt

settle_deep : (m : ℕ) (bs : List Bound) (u : ℕ) → Named m bs → Each Small bs → (k j : ℕ) (row : List ℤ) (steps : List ℕ) → length row ≡ m → Inside j row → Deep m (j + k) (settle bs u k row steps)
unfolding settle turn
settle_deep m bs u formed small zero j row steps l i = (l, inside_weaker j (j + 0) row (omega arith) i)
settle_deep m bs u formed small (suc k) j row steps l i =
    let p : ℕ = (worst row bs).0 in
    let row' : List ℤ = set row (at bs p).term (limit row (at bs p)) in
    let rest : Outcome = settle bs u k row' (steps ++ p ∷ []) in
    let inner : Outcome = cond (eqb (at bs p).term u) (clash (core bs steps p)) rest in
    cond_both (lt_z (pos 0) (worst row bs).1) inner (fits row) (Deep m (j + suc k))
    (λ t. let b : pos 0 <ℤ (worst row bs).1 = grind (arith, ints) in
    let w : _ = worst_is row bs b in
    let f : _ = formed p w.0 in
    let broken : pos 0 <ℤ excess row (at bs p) = omega (arith, ints, w.1, b) in
    cond_both (eqb (at bs p).term u) (clash (core bs steps p)) rest (Deep m (j + suc k))
    (λ e. tt)
    (λ ne. deep_weaker m ((j + 1) + k) (j + suc k) rest (omega arith)
    (settle_deep m bs u formed small k (j + 1) row' (steps ++ p ∷ []) (length-set row (at bs p).term (limit row (at bs p)) ∙ l)
    (inside_on j row (at bs p) i (omega (arith, f.1, l)) (small p w.0) (omega (arith, f.0, l)) broken))))
    (λ t. (l, inside_weaker j (j + suc k) row (omega arith) i))

add_deep : (m : ℕ) (seen : List Bound) (o : Outcome) (b : Bound) (j : ℕ) → Named m (seen ++ b ∷ []) → Each Small (seen ++ b ∷ []) → Deep m j o → Deep m (j + (m + 1)) (add m seen o b)
add_deep m seen (fits row) b j formed small d = settle_deep m (seen ++ b ∷ []) b.base formed small (m + 1) j row [] d.0 d.1
add_deep m seen (clash ps) b j formed small d = tt

pub each_front : (P : Bound → Type 0) (seen bs : List Bound) → Each P (seen ++ bs) → Each P seen
each_front P seen bs h p l = subst P (get_or_append_left seen bs no_bound p l) (h p (omega (arith, l, length-append seen bs)))

from_deep : (m : ℕ) (seen : List Bound) (o : Outcome) (bs : List Bound) (j : ℕ) → Named m (seen ++ bs) → Each Small (seen ++ bs) → Deep m j o → Deep m (j + length bs * (m + 1)) (outcome_from m seen o bs)
unfolding outcome_from
from_deep m seen o [] j formed small d = deep_weaker m j (j + 0 * (m + 1)) o (omega arith) d
from_deep m seen o (b ∷ bs) j formed small d =
    let e : (seen ++ b ∷ []) ++ bs ≡ seen ++ b ∷ bs = append_assoc seen (b ∷ []) bs in
    let formed' : Named m ((seen ++ b ∷ []) ++ bs) = subst (Named m) (sym e) formed in
    let small' : Each Small ((seen ++ b ∷ []) ++ bs) = subst (Each Small) (sym e) small in
    deep_weaker m ((j + (m + 1)) + length bs * (m + 1)) (j + length (b ∷ bs) * (m + 1)) (outcome_from m (seen ++ b ∷ []) (add m seen o b) bs)
    (omega (arith, suc-mul (length bs) (m + 1)))
    (from_deep m (seen ++ b ∷ []) (add m seen o b) bs (j + (m + 1)) formed' small'
    (add_deep m seen o b j (each_front (λ c. (c.term < m) × (c.base < m)) (seen ++ b ∷ []) bs formed') (each_front Small (seen ++ b ∷ []) bs small') d))

pub outcome_deep : (m : ℕ) (bs : List Bound) → m ≤ 256 → length bs ≤ 128 → Named m bs → Each Small bs → Deep m 39000 (outcome m bs)
outcome_deep m bs hm hn formed small =
    let wide : m + 1 ≤ 257 = omega arith in
    let most : length bs * (m + 1) ≤ 128 * 257 = mul-le-mul {n₂ = 128} {m₂ = 257} hn wide in
    deep_weaker m (0 + length bs * (m + 1)) 39000 (outcome m bs) (omega (arith, most))
    (from_deep m [] (fits (replicate m (pos 0))) bs 0 formed small
    (length-replicate m (pos 0), λ x h. (omega (arith, ints, num_zeros m x), omega (arith, ints, num_zeros m x))))

-- ---- longer lists

clash_from : (m : ℕ) (seen : List Bound) (ps : List ℕ) (bs : List Bound) → outcome_from m seen (clash ps) bs ≡ clash ps
unfolding outcome_from
clash_from m seen ps [] = refl
clash_from m seen ps (b ∷ bs) = clash_from m (seen ++ b ∷ []) ps bs

from_append : (m : ℕ) (seen : List Bound) (o : Outcome) (xs ys : List Bound) → outcome_from m seen o (xs ++ ys) ≡ outcome_from m (seen ++ xs) (outcome_from m seen o xs) ys
unfolding outcome_from
from_append m seen o [] ys = ap (λ z. outcome_from m z o ys) (sym (append-nil seen))
from_append m seen o (x ∷ xs) ys =
    from_append m (seen ++ x ∷ []) (add m seen o x) xs ys
    ∙ ap (λ z. outcome_from m z (outcome_from m (seen ++ x ∷ []) (add m seen o x) xs) ys) (append_assoc seen (x ∷ []) xs)

-- a core stays as the list grows
pub clash_stays : (m : ℕ) (xs ys : List Bound) (ps : List ℕ) → outcome m xs ≡ clash ps → outcome m (xs ++ ys) ≡ clash ps
clash_stays m xs ys ps e =
    from_append m [] (fits (replicate m (pos 0))) xs ys ∙ ap (λ o. outcome_from m xs o ys) e ∙ clash_from m xs ps ys

-- a list that is not empty is its front and its last bound
pub front_last : (bs : List Bound) → 0 < length bs → bs ≡ take (length bs - 1) bs ++ at bs (length bs - 1) ∷ []
front_last bs h =
    let e : (length bs - 1) + 1 ≡ length bs = omega arith in
    sym (take_all (length bs) bs (omega arith)) ∙ ap (λ n. take n bs) (sym e) ∙ take_more bs (length bs - 1) no_bound (omega arith)

pub outcome_last : (m : ℕ) (bs : List Bound) (row : List ℤ) → 0 < length bs → outcome m (take (length bs - 1) bs) ≡ fits row → outcome m bs ≡ settle bs (at bs (length bs - 1)).base (m + 1) row []
outcome_last m bs row h e =
    let front : List Bound = take (length bs - 1) bs in
    let b : Bound = at bs (length bs - 1) in
    ap (outcome m) (front_last bs h) ∙ outcome_push m front b ∙ ap (λ o. add m front o b) e
    ∙ ap (λ z. settle z b.base (m + 1) row []) (sym (front_last bs h))

-- the row of the front is its greatest fit
front_greatest : (m : ℕ) (bs : List Bound) (row : List ℤ) → 0 < length bs → Named m bs → outcome m (take (length bs - 1) bs) ≡ fits row → Greatest m (take (length bs - 1) bs) row
front_greatest m bs row h formed e =
    let front : List Bound = take (length bs - 1) bs in
    let tail : List Bound = at bs (length bs - 1) ∷ [] in
    subst (Good m front) e (outcome_good m front (each_front (λ c. (c.term < m) × (c.base < m)) front tail (subst (Named m) (front_last bs h) formed)))

-- so it keeps all bounds but the last
pub front_keeps : (m : ℕ) (bs : List Bound) (row : List ℤ) → 0 < length bs → Named m bs → outcome m (take (length bs - 1) bs) ≡ fits row → (q : ℕ) → q < length bs - 1 → excess row (at bs q) ≤ℤ pos 0
front_keeps m bs row h formed e q l =
    let g : Greatest m (take (length bs - 1) bs) row = front_greatest m bs row h formed e in
    let k : Keeps row (at (take (length bs - 1) bs) q) = g.fit.keeps q (omega (arith, l, length-take-le (length bs - 1) bs (omega arith))) in
    let k' : Keeps row (at bs q) = subst (Keeps row) (get_or-take (length bs - 1) bs q no_bound l) k in
    omega (arith, ints, k')

-- and settling can start from it
pub front_start : (m : ℕ) (bs : List Bound) (row : List ℤ) → 0 < length bs → Named m bs → outcome m (take (length bs - 1) bs) ≡ fits row → Start m bs (at bs (length bs - 1)).base row
front_start m bs row h formed e =
    let front : List Bound = take (length bs - 1) bs in
    let b : Bound = at bs (length bs - 1) in
    subst (λ z. Start m z b.base row) (sym (front_last bs h)) (start m front b row (subst (Named m) (front_last bs h) formed) (front_greatest m bs row h formed e))

pub front_inside : (m : ℕ) (bs : List Bound) (row : List ℤ) → 0 < length bs → m ≤ 256 → length bs ≤ 128 → Named m bs → Each Small bs → outcome m (take (length bs - 1) bs) ≡ fits row → Inside 39000 row
front_inside m bs row h hm hn formed small e =
    let front : List Bound = take (length bs - 1) bs in
    let tail : List Bound = at bs (length bs - 1) ∷ [] in
    let few : length front ≤ 128 = omega (arith, ap length (front_last bs h), length-append front tail) in
    let f : Named m front = each_front (λ c. (c.term < m) × (c.base < m)) front tail (subst (Named m) (front_last bs h) formed) in
    let s : Each Small front = each_front Small front tail (subst (Each Small) (front_last bs h) small) in
    let d : Deep m 39000 (fits row) = subst (Deep m 39000) e (outcome_deep m front hm few f s) in
    d.1
