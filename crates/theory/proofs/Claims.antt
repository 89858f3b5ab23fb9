-- Lists of literals with no claim twice. Assumes nothing.
use Rattle.std.proofs.Common.{◌≡◌, ℕ, zero, suc, ◌+◌, ◌*◌, ◌<◌, ◌≤◌, Bool, true, false, cond, not, ◌||◌, eqb, ◌≢◌, List, [], ◌∷◌, ◌++◌, length, take, sym, refl, ap, ◌∙◌, ⊎_elim, add-one, arith}
use Rattle.std.proofs.lemmas.Bool.{cases_eq, cond_both, or_left, eq-eqb, ne_eqb, and_parts, and_from, not-true, not_from_false, true≢false}
use Rattle.std.proofs.lemmas.List.Elements.{All-push, All-take}
use Rattle.std.proofs.Math.Bool.{or-true}
use Rattle.std.specs.List.{All, list_any}
use Rattle.theory.specs.Literals.{claim, complement, has, names, apart, Proper}

-- ---- the claims that a list names

pub names_here : (x : ℕ) (xs : List ℕ) (l : ℕ) → claim x ≡ claim l → names (x ∷ xs) l ≡ true
names_here x xs l h =
    ⊎_elim (λ (e : x ≡ l). rw (eq-eqb x l e))
    (λ (f : x ≢ l).
    let g : x ≡ complement l = omega (arith, f) in
    rw (eq-eqb x (complement l) g) (or-true (eqb x l || has xs l)))
    (cases_eq x l)

pub names_later : (x : ℕ) (xs : List ℕ) (l : ℕ) → (claim x ≡ claim l → ⊥) → names (x ∷ xs) l ≡ names xs l
names_later x xs l h =
    let a : x ≢ l = λ e. h (ap claim e) in
    let b : x ≢ complement l = λ e. h (omega arith) in
    rw (ne_eqb x l a, ne_eqb x (complement l) b)

names_parts : (x : ℕ) (xs : List ℕ) (l : ℕ) → names (x ∷ xs) l ≡ false → (claim x ≡ claim l → ⊥) × (names xs l ≡ false)
names_parts x xs l h =
    let ne : claim x ≡ claim l → ⊥ = λ e. true≢false (sym (names_here x xs l e) ∙ h) in
    (ne, sym (names_later x xs l ne) ∙ h)

-- a list names a literal's claim exactly if some literal of it has that claim
pub names_any : (xs : List ℕ) (l : ℕ) → names xs l ≡ list_any (λ m. eqb (claim m) (claim l)) xs
names_any [] l = refl
names_any (x ∷ xs) l =
    ⊎_elim (λ (e : claim x ≡ claim l). names_here x xs l e ∙ sym (or_left _ _ (eq-eqb (claim x) (claim l) e)))
    (λ (f : claim x ≡ claim l → ⊥). names_later x xs l f ∙ names_any xs l ∙ sym (ap (λ b. b || list_any (λ m. eqb (claim m) (claim l)) xs) (ne_eqb (claim x) (claim l) f)))
    (cases_eq (claim x) (claim l))

-- two literals of one claim are named alike
pub names_same : (xs : List ℕ) (x y : ℕ) → claim x ≡ claim y → names xs x ≡ false → names xs y ≡ false
names_same [] x y e h = refl
names_same (z ∷ zs) x y e h =
    let p = names_parts z zs x h in names_later z zs y (λ q. p.0 (q ∙ sym e)) ∙ names_same zs x y e p.1

-- ---- one more literal, or fewer

names_push : (xs : List ℕ) (x l : ℕ) → names xs l ≡ false → (claim x ≡ claim l → ⊥) → names (xs ++ x ∷ []) l ≡ false
names_push [] x l e h = names_later x [] l h
names_push (y ∷ ys) x l e h = let p = names_parts y ys l e in names_later y (ys ++ x ∷ []) l p.0 ∙ names_push ys x l p.1 h

names_take : (k : ℕ) (xs : List ℕ) (l : ℕ) → names xs l ≡ false → names (take k xs) l ≡ false
names_take zero [] l e = refl
names_take zero (x ∷ xs) l e = refl
names_take (suc k) [] l e = refl
names_take (suc k) (x ∷ xs) l e = let p = names_parts x xs l e in names_later x (take k xs) l p.0 ∙ names_take k xs l p.1

apart_push : (ls : List ℕ) (l : ℕ) → apart ls ≡ true → names ls l ≡ false → apart (ls ++ l ∷ []) ≡ true
apart_push [] l h e = refl
apart_push (m ∷ ms) l h e =
    let b = and_parts (not (names ms m)) (apart ms) h in
    let p = names_parts m ms l e in
    and_from _ _ (not_from_false _ (names_push ms l m (not-true (names ms m) b.0) (λ q. p.0 (sym q)))) (apart_push ms l b.1 p.1)

apart_take : (k : ℕ) (ls : List ℕ) → apart ls ≡ true → apart (take k ls) ≡ true
apart_take zero [] h = refl
apart_take zero (l ∷ ls) h = refl
apart_take (suc k) [] h = refl
apart_take (suc k) (l ∷ ls) h =
    let b = and_parts (not (names ls l)) (apart ls) h in
    and_from _ _ (not_from_false _ (names_take k ls l (not-true (names ls l) b.0))) (apart_take k ls b.1)

pub proper_push : (n : ℕ) (ls : List ℕ) (l : ℕ) → Proper n ls → l < 2 * n → names ls l ≡ false → Proper n (ls ++ l ∷ [])
proper_push n ls l p h e = record {
  below = All-push (λ m. m < 2 * n) ls l p.below h;
  apart_claims = apart_push ls l p.apart_claims e;
}

pub proper_take : (n k : ℕ) (ls : List ℕ) → Proper n ls → Proper n (take k ls)
proper_take n k ls p = record {
  below = All-take (λ m. m < 2 * n) k ls p.below;
  apart_claims = apart_take k ls p.apart_claims;
}

-- ---- no more literals than claims

-- how many claims below n the list names
abbrev tally : ℕ → List ℕ → ℕ
tally zero ls = 0
tally (suc k) ls = tally k ls + cond (names ls (2 * k)) 1 0

tally_le : (n : ℕ) (ls : List ℕ) → tally n ls ≤ n
tally_le zero ls = omega arith
tally_le (suc k) ls =
    let h : tally k ls ≤ k = tally_le k ls in
    cond_both (names ls (2 * k)) 1 0 (λ x. tally k ls + x ≤ suc k) (λ e. omega arith) (λ e. omega arith)

tally_none : (n : ℕ) → tally n [] ≡ 0
tally_none zero = refl
tally_none (suc k) = rw (tally_none k) (omega arith)

tally_past : (n l : ℕ) (ls : List ℕ) → n ≤ claim l → tally n (l ∷ ls) ≡ tally n ls
tally_past zero l ls h = refl
tally_past (suc k) l ls h =
    let ih : tally k (l ∷ ls) ≡ tally k ls = tally_past k l ls (omega arith) in
    let other : names (l ∷ ls) (2 * k) ≡ names ls (2 * k) = names_later l ls (2 * k) (λ e. omega arith) in
    ap (λ (b : Bool). tally k (l ∷ ls) + cond b 1 0) other ∙ ap (λ (x : ℕ). x + cond (names ls (2 * k)) 1 0) ih

tally_new : (n l : ℕ) (ls : List ℕ) → claim l < n → names ls l ≡ false → tally n (l ∷ ls) ≡ tally n ls + 1
tally_new zero l ls h new = absurd (omega arith)
tally_new (suc k) l ls h new =
    ⊎_elim
    (λ (e : claim l ≡ k).
    let past : tally k (l ∷ ls) ≡ tally k ls = tally_past k l ls (omega arith) in
    let here : names (l ∷ ls) (2 * k) ≡ true = names_here l ls (2 * k) (omega arith) in
    let off : names ls (2 * k) ≡ false = names_same ls l (2 * k) (omega arith) new in
    ap (λ (b : Bool). tally k (l ∷ ls) + cond b 1 0) here ∙ ap (λ (x : ℕ). x + 1) (past ∙ zero_more k ls off))
    (λ (ne : claim l ≡ k → ⊥).
    let ih : tally k (l ∷ ls) ≡ tally k ls + 1 = tally_new k l ls (omega arith) new in
    let other : names (l ∷ ls) (2 * k) ≡ names ls (2 * k) = names_later l ls (2 * k) (λ e. ne (omega arith)) in
    ap (λ (b : Bool). tally k (l ∷ ls) + cond b 1 0) other ∙ swapped (tally k (l ∷ ls)) (tally k ls) (cond (names ls (2 * k)) 1 0) ih)
    (cases_eq (claim l) k)
  where
    swapped : (a b x : ℕ) → a ≡ b + 1 → a + x ≡ (b + x) + 1
    swapped a b x e = omega arith

    zero_more : (k : ℕ) (ls : List ℕ) → names ls (2 * k) ≡ false → tally k ls ≡ tally k ls + cond (names ls (2 * k)) 1 0
    zero_more k ls e = let z : tally k ls ≡ tally k ls + 0 = omega arith in z ∙ ap (λ (b : Bool). tally k ls + cond b 1 0) (sym e)

tally_all : (n : ℕ) (ls : List ℕ) → All (λ l. l < 2 * n) ls → apart ls ≡ true → tally n ls ≡ length ls
tally_all n [] b h = tally_none n
tally_all n (l ∷ ls) b h =
    let a = and_parts (not (names ls l)) (apart ls) h in
    let low : l < 2 * n = b 0 0 (omega arith) in
    tally_new n l ls (omega arith) (not-true (names ls l) a.0) ∙ ap (λ (x : ℕ). x + 1) (tally_all n ls (λ k d i. b (suc k) d (omega (arith, i))) a.1) ∙ add-one (length ls)

pub proper_few : (n : ℕ) (ls : List ℕ) → Proper n ls → length ls ≤ n
proper_few n ls p = omega (arith, tally_all n ls p.below p.apart_claims, tally_le n ls)
