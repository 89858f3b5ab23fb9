-- A text is its first line, a line feed, and the lines after it. Assumes nothing.
use Rattle.std.proofs.Common.{◌≡◌, ℕ, suc, ◌+◌, ◌<◌, ◌≤◌, Bool, true, false, not, cond, List, [], ◌∷◌, length, take, drop, refl, ap, ◌∙◌, arith}
use Rattle.std.specs.List.{onto_first, position_or_len, before_first, after_first}
use Rattle.book.specs.Pieces.{newline, lines}

pub lines_none : (bs : List ℕ) → length bs ≡ 0 → lines bs ≡ []
unfolding lines
lines_none [] h = refl
lines_none (b ∷ bs) h = absurd (omega arith)

shifted : (n : ℕ) (b : ℕ) (bs : List ℕ) → onto_first b (take n bs ∷ lines (drop (n + 1) bs)) ≡ take (1 + n) (b ∷ bs) ∷ lines (drop (1 + n + 1) (b ∷ bs))
shifted n b bs =
    let k : 1 + n ≡ suc n = omega arith in
    let j : 1 + n + 1 ≡ suc (n + 1) = omega arith in
    rw (j, k)

first : (b : ℕ) (bs : List ℕ) → let n = position_or_len newline (b ∷ bs) in lines (b ∷ bs) ≡ take n (b ∷ bs) ∷ lines (drop (n + 1) (b ∷ bs))
unfolding lines
first b [] = go (newline b)
  where
    go : (t : Bool) → cond t ([] ∷ []) ((b ∷ []) ∷ []) ≡ take (cond (not t) (1 + 0) 0) (b ∷ []) ∷ lines (drop (cond (not t) (1 + 0) 0 + 1) (b ∷ []))
    go true = refl
    go false = refl
first b (d ∷ ds) = go (newline b) (position_or_len newline (d ∷ ds)) (first d ds)
  where
    go : (t : Bool) (n : ℕ) → lines (d ∷ ds) ≡ take n (d ∷ ds) ∷ lines (drop (n + 1) (d ∷ ds)) → cond t ([] ∷ lines (d ∷ ds)) (onto_first b (lines (d ∷ ds))) ≡ take (cond (not t) (1 + n) 0) (b ∷ d ∷ ds) ∷ lines (drop (cond (not t) (1 + n) 0 + 1) (b ∷ d ∷ ds))
    go true n e = refl
    go false n e = ap (onto_first b) e ∙ shifted n b (d ∷ ds)

pub lines_first : (bs : List ℕ) → 0 < length bs → lines bs ≡ before_first newline bs ∷ lines (after_first newline bs)
lines_first [] h = absurd (omega arith)
lines_first (b ∷ bs) h = first b bs

onto_first_length : (b : ℕ) (ls : List (List ℕ)) → length (onto_first b ls) ≤ length ls + 1
onto_first_length b [] = omega arith
onto_first_length b (l ∷ ls) = omega arith

pub lines_le : (bs : List ℕ) → length (lines bs) ≤ length bs
unfolding lines
lines_le [] = omega arith
lines_le (b ∷ bs) = go (newline b) (lines_le bs)
  where
    go : (t : Bool) → length (lines bs) ≤ length bs → length (cond t ([] ∷ lines bs) (onto_first b (lines bs))) ≤ length (b ∷ bs)
    go true h = omega arith
    go false h = omega (arith, onto_first_length b (lines bs))
