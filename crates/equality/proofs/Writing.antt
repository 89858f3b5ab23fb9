-- A row of values, written one by one. Assumes nothing.
use Rattle.std.proofs.Common.{◌≡◌, ℕ, zero, suc, ◌+◌, ◌<◌, List, [], ◌∷◌, ◌++◌, length, take, drop, set, ℤ, sym, refl, ap, ◌∙◌, subst, arith, take-append-drop}
use Rattle.std.proofs.lemmas.List.{take_more_set, drop-set-lt, drop-drop}
use Rattle.theory.specs.Calls.{over}
use Rattle.congruence.specs.Equality.{row}
use Rattle.congruence.proofs.Searches.{row_long}

row_push : (low n : ℕ) (f : ℕ → ℤ) → row low (n + 1) f ≡ row low n f ++ f (low + n) ∷ []
unfolding row
row_push low zero f = ap (λ (k : ℕ). f k ∷ []) (let e : low ≡ low + 0 = omega arith in e)
row_push low (suc n) f =
    ap (λ (k : ℕ). row low k f) (let e : suc n + 1 ≡ suc (n + 1) = omega arith in e)
    ∙ ap (λ (l : List ℤ). f low ∷ l) (row_push (low + 1) n f ∙ ap (λ (k : ℕ). row (low + 1) n f ++ f k ∷ []) (let e : (low + 1) + n ≡ low + suc n = omega arith in e))

-- a row of values that is written in front of what was there
pub record Front (start place : List ℤ) (n : ℕ) (f : ℕ → ℤ) : Type 0 where
  pub front : take n place ≡ row 0 n f
  pub rest : drop n place ≡ drop n start

pub front_none : (start : List ℤ) (f : ℕ → ℤ) → Front start start 0 f
unfolding row
front_none start f = record { front = refl; rest = refl }

pub front_more : (start place : List ℤ) (n i : ℕ) (v : ℤ) (f : ℕ → ℤ) → i ≡ n → n < length place → v ≡ f n → Front start place n f → Front start (set place i v) (n + 1) f
front_more start place n i v f e h is x = subst (λ (k : ℕ). Front start (set place k v) (n + 1) f) (sym e) (record {
  front = take_more_set place n v h ∙ ap (λ (l : List ℤ). l ++ v ∷ []) x.front ∙ ap (λ (y : ℤ). row 0 n f ++ y ∷ []) (is ∙ ap f (let z : n ≡ 0 + n = omega arith in z)) ∙ sym (row_push 0 n f);
  rest = drop-set-lt (n + 1) place n v (omega arith) ∙ sym (drop-drop 1 n place) ∙ ap (drop 1) x.rest ∙ drop-drop 1 n start;
})

pub front_all : (start place : List ℤ) (n : ℕ) (f : ℕ → ℤ) → Front start place n f → place ≡ over (row 0 n f) start
front_all start place n f x =
    sym (take-append-drop n place) ∙ ap (λ (l : List ℤ). l ++ drop n place) x.front
    ∙ ap (λ (l : List ℤ). row 0 n f ++ l) (x.rest ∙ ap (λ (k : ℕ). drop k start) (sym (row_long 0 n f)))
