-- The one list of a set of literals. Assumes nothing.
use Rattle.std.proofs.Common.{◌≡◌, ℕ, zero, suc, ◌+◌, ◌-◌, ◌<◌, ◌≤◌, Bool, true, false, not, ◌&&◌, ◌||◌, ◌==◌, eqb, List, [], ◌∷◌, ◌++◌, length, get_or, take, set, sym, refl, ap, ◌∙◌, ⊎_elim, append-nil, add-zero, zero-add, add-one, replicate, arith, get_or-set_other, get_or-set_same, IsTrue, ◌↔◌, EachIndex}
use Rattle.std.proofs.lemmas.Bool.{or_left, or_right, eq-eqb, ne_eqb, cases_eq, and_from, not_from_false}
use Rattle.std.proofs.lemmas.List.{take_more, take_all, length_push, get_or-replicate}
use Rattle.std.proofs.Math.Bool.{or-false, and-false}
use Rattle.std.specs.Iterator.{YieldsFirst}
use Rattle.std.proofs.lemmas.Iterator.{YieldsList}
use Rattle.std.proofs.lemmas.Iterator.Consumers.{YieldsList-from_first}
use Rattle.theory.specs.Literals.{has, complement}
use Rattle.theory.specs.Positions.{put, listed}
use Rattle.rules.specs.Clauses.{set_of}
use Rattle.rules.specs.Rules.{resolved}
use Rattle.rules.proofs.Lists.{has_push}
use Rattle.rules.proofs.Clauses.{set_has, set_same}
use Rattle.clauses.specs.declared.set.LiteralSet.{LiteralSet}
use Rattle.clauses.specs.declared.set.Literals.{Literals}
use Rattle.clauses.specs.Sets.{members}
use Rattle.clauses.specs.Left.{literals_left}

pub members_set : (s : LiteralSet) → set_of (has (members s)) ≡ members s
members_set s = set_same _ _ (set_has _)

-- ---- one mark

-- a set with one literal put in or taken out
abbrev pub with : List ℕ → ℕ → Bool → ℕ → Bool
with C l b m = (m == l && b) || (not (m == l) && has C m)

with_here : (C : List ℕ) (l : ℕ) (b : Bool) (m : ℕ) → m ≡ l → with C l b m ≡ b
with_here C l b m e = rw (eq-eqb m l e) (or-false b)

with_other : (C : List ℕ) (l : ℕ) (b : Bool) (m : ℕ) → (m ≡ l → ⊥) → with C l b m ≡ has C m
with_other C l b m e = rw (ne_eqb m l e)

pub mark_set : (marks : List Bool) (l : ℕ) (b : Bool) → l < length marks
    → set_of (λ m. get_or (set marks l b) m false) ≡ set_of (with (set_of (λ m. get_or marks m false)) l b)
mark_set marks l b h = set_same _ _ (λ m k.
    ⊎_elim
    (λ (e : m ≡ l). ap (λ (x : ℕ). get_or (set marks l b) x false) e ∙ get_or-set_same marks l b false h ∙ sym (with_here _ l b m e))
    (λ (e : m ≡ l → ⊥). get_or-set_other marks l m b false e ∙ sym (set_has _ m k) ∙ sym (with_other _ l b m e))
    (cases_eq m l))

pub mark_past : (p : ℕ → Bool) (l : ℕ) (b : Bool) → 256 ≤ l → set_of p ≡ set_of (with (set_of p) l b)
mark_past p l b h = set_same _ _ (λ m k. sym (set_has p m k) ∙ sym (with_other _ l b m (λ e. omega arith)))

-- ---- one literal more of a clause

-- what a literal put in makes of a set, at that literal and at the others
put_in : (p q : ℕ → Bool) (l : ℕ) → q l ≡ true → ((m : ℕ) → (m ≡ l → ⊥) → p m ≡ q m) → set_of (with (set_of p) l true) ≡ set_of q
put_in p q l here others = set_same _ _ (λ m k.
    ⊎_elim
    (λ (e : m ≡ l). with_here _ l true m e ∙ sym here ∙ ap q (sym e))
    (λ (e : m ≡ l → ⊥). with_other _ l true m e ∙ set_has p m k ∙ others m e)
    (cases_eq m l))

has_more : (R : List ℕ) (i m : ℕ) → i < length R → has (take (i + 1) R) m ≡ (eqb (get_or R i 0) m || has (take i R) m)
has_more R i m h = ap (λ xs. has xs m) (take_more R i 0 h) ∙ has_push (take i R) (get_or R i 0) m

has_here : (R : List ℕ) (i : ℕ) → i < length R → has (take (i + 1) R) (get_or R i 0) ≡ true
has_here R i h = let l = get_or R i 0 in has_more R i l h ∙ or_left (eqb l l) (has (take i R) l) (eq-eqb l l refl)

has_other : (R : List ℕ) (i m : ℕ) → i < length R → (m ≡ get_or R i 0 → ⊥) → has (take i R) m ≡ has (take (i + 1) R) m
has_other R i m h e = sym (has_more R i m h ∙ ap (λ b. b || has (take i R) m) (ne_eqb (get_or R i 0) m (λ x. e (sym x))))

pub of_none : set_of (λ m. get_or (replicate 256 false) m false) ≡ set_of (has [])
of_none = set_same _ _ (λ m k. get_or-replicate 256 m false false k)

pub of_more : (R : List ℕ) (i : ℕ) (C : List ℕ) → i < length R → C ≡ set_of (has (take i R))
    → set_of (with C (get_or R i 0) true) ≡ set_of (has (take (i + 1) R))
of_more R i C h is = ap (λ D. set_of (with D (get_or R i 0) true)) is ∙ put_in _ _ _ (has_here R i h) (λ m e. has_other R i m h e)

-- the set without the complement of `l`, and with a clause's literals other than `l`
pub resolve_start : (C : List ℕ) (l : ℕ) → set_of (with C (complement l) false) ≡ resolved C l []
resolve_start C l = set_same _ _ (λ m k. go (eqb m (complement l)) (has C m))
  where
    go : (a h : Bool) → ((a && false) || (not a && h)) ≡ ((h && not a) || false)
    go true true = refl
    go true false = refl
    go false true = refl
    go false false = refl

pub resolve_more : (C : List ℕ) (l : ℕ) (R : List ℕ) (i : ℕ) (D : List ℕ) → i < length R → (get_or R i 0 ≡ l → ⊥) → D ≡ resolved C l (take i R)
    → set_of (with D (get_or R i 0) true) ≡ resolved C l (take (i + 1) R)
resolve_more C l R i D h ne is =
    let x = get_or R i 0 in
    let here = and_from (has (take (i + 1) R) x) (not (x == l)) (has_here R i h) (not_from_false (x == l) (ne_eqb x l ne)) in
    ap (λ E. set_of (with E x true)) is
    ∙ put_in _ _ _ (or_right (has C x && not (x == complement l)) (has (take (i + 1) R) x && not (x == l)) here)
    (λ m e. ap (λ b. (has C m && not (m == complement l)) || (b && not (m == l))) (has_other R i m h e))

pub resolve_skip : (C : List ℕ) (l : ℕ) (R : List ℕ) (i : ℕ) → i < length R → get_or R i 0 ≡ l → resolved C l (take i R) ≡ resolved C l (take (i + 1) R)
resolve_skip C l R i h is = set_same _ _ (λ m k.
    ap (λ b. (has C m && not (m == complement l)) || b)
    (⊎_elim
    (λ (e : m ≡ l). rw (eq-eqb m l e) (and-false (has (take i R) m) ∙ sym (and-false (has (take (i + 1) R) m))))
    (λ (e : m ≡ l → ⊥). ap (λ b. b && not (m == l)) (has_other R i m h (λ x. e (x ∙ is))))
    (cases_eq m l)))

-- ---- no literal

none_listed : (low count : ℕ) → listed low count (λ m. false) ≡ []
unfolding listed
none_listed low zero = refl
none_listed low (suc count) = none_listed (low + 1) count

pub empty_set : (marks : List Bool) (r : Bool) → length marks ≡ 256 → (IsTrue r ↔ EachIndex marks (λ k. get_or marks k false ≡ false))
    → IsTrue r ↔ (set_of (λ m. get_or marks m false) ≡ [])
empty_set marks r long h = (
  λ e. set_same _ (λ m. false) (λ m k. h.0 e m (omega arith)) ∙ none_listed 0 256,
  λ e. h.1 (λ k b. sym (set_has _ k (omega arith)) ∙ ap (λ xs. has xs k) e),
)

-- ---- on the way through a set

-- a number that is none of the set's, one that is, and the end
pub left_skip : (test : ℕ → Bool) (l : ℕ) → l < 256 → test l ≡ false → listed l (256 - l) test ≡ listed (l + 1) (256 - (l + 1)) test
unfolding listed
left_skip test l h e =
    ap (λ (n : ℕ). listed l n test) (let q : 256 - l ≡ suc (256 - (l + 1)) = omega arith in q) ∙ ap (λ b. put b l (listed (l + 1) (256 - (l + 1)) test)) e

pub left_take : (test : ℕ → Bool) (l : ℕ) → l < 256 → test l ≡ true → listed l (256 - l) test ≡ l ∷ listed (l + 1) (256 - (l + 1)) test
unfolding listed
left_take test l h e =
    ap (λ (n : ℕ). listed l n test) (let q : 256 - l ≡ suc (256 - (l + 1)) = omega arith in q) ∙ ap (λ b. put b l (listed (l + 1) (256 - (l + 1)) test)) e

pub left_none : (test : ℕ → Bool) (l : ℕ) → 256 ≤ l → listed l (256 - l) test ≡ []
unfolding listed
left_none test l h = ap (λ (n : ℕ). listed l n test) (let q : 256 - l ≡ 0 = omega arith in q)

-- ---- literals put down one by one

listed_one_more : (low n : ℕ) (test : ℕ → Bool) → listed low (suc n) test ≡ listed low n test ++ put (test (low + n)) (low + n) []
unfolding listed
listed_one_more low zero test = ap (λ (k : ℕ). put (test k) k []) (sym (add-zero low))
listed_one_more low (suc n) test =
    ap (put (test low) low) (listed_one_more (low + 1) n test) ∙ go (test low) (listed (low + 1) n test) (put (test ((low + 1) + n)) ((low + 1) + n) [])
    ∙ ap (λ (k : ℕ). put (test low) low (listed (low + 1) n test) ++ put (test k) k []) (let e : (low + 1) + n ≡ low + suc n = omega arith in e)
  where
    go : (b : Bool) (xs ys : List ℕ) → put b low (xs ++ ys) ≡ put b low xs ++ ys
    go true xs ys = refl
    go false xs ys = refl

listed_more : (n : ℕ) (test : ℕ → Bool) → listed 0 (n + 1) test ≡ listed 0 n test ++ put (test n) n []
listed_more n test =
    ap (λ (k : ℕ). listed 0 k test) (add-one n) ∙ listed_one_more 0 n test ∙ ap (λ (k : ℕ). listed 0 n test ++ put (test k) k []) (zero-add n)

listed_short : (low n : ℕ) (test : ℕ → Bool) → length (listed low n test) ≤ n
unfolding listed
listed_short low zero test = omega arith
listed_short low (suc n) test = go (test low) (listed (low + 1) n test) (listed_short (low + 1) n test)
  where
    go : (b : Bool) (xs : List ℕ) → length xs ≤ n → length (put b low xs) ≤ suc n
    go true xs h = omega arith
    go false xs h = omega arith

pub members_few : (s : LiteralSet) → length (members s) ≤ 256
members_few s = listed_short 0 256 (λ m. get_or s.marks m false)

-- going through a set gives its literals
pub literals_chain : (s : Literals) → YieldsList (YieldsFirst literals_left) (λ x. x) s (literals_left s)
literals_chain s = YieldsList-from_first (λ x. x) literals_left (literals_left s) refl

pub stored_more : (xs : List ℕ) (n : ℕ) (test : ℕ → Bool) → n < 256 → xs ≡ listed 0 n test → test n ≡ true → take 256 (xs ++ n ∷ []) ≡ listed 0 (n + 1) test
stored_more xs n test h is e =
    take_all 256 (xs ++ n ∷ []) (omega (arith, length_push xs n, ap length is, listed_short 0 n test))
    ∙ ap (λ ys. ys ++ n ∷ []) is ∙ ap (λ b. listed 0 n test ++ put b n []) (sym e) ∙ sym (listed_more n test)

pub stored_skip : (xs : List ℕ) (n : ℕ) (test : ℕ → Bool) → xs ≡ listed 0 n test → test n ≡ false → xs ≡ listed 0 (n + 1) test
stored_skip xs n test is e =
    is ∙ sym (append-nil (listed 0 n test)) ∙ ap (λ b. listed 0 n test ++ put b n []) (sym e) ∙ sym (listed_more n test)
