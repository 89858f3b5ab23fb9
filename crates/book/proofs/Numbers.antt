-- The value of digits. Assumes nothing.
use Rattle.std.proofs.Common.{ℕ, ◌+◌, ◌-◌, ◌*◌, ◌≤◌, List, [], ◌∷◌, arith}
use Rattle.book.specs.Words.{value_after}

-- more digits write no smaller number
pub value_ge : (n : ℕ) (bs : List ℕ) → n ≤ value_after n bs
unfolding value_after
value_ge n [] = omega arith
value_ge n (b ∷ bs) = omega (arith, value_ge (n * 10 + (b - 48)) bs)
