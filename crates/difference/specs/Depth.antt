-- How large constants are, and how low numbers can be: all sums stay far inside 64 bits. Assumes nothing.
use Rattle.std.specs.Prelude.{ℕ, ◌*◌, ◌<◌, List, length, ℤ, pos, ◌+ℤ◌, neg_ℤ, ◌≤ℤ◌}
use Rattle.theory.specs.Meaning.{num}
use Rattle.difference.specs.declared.bound.Bound.{Bound}
use Rattle.difference.specs.Bounds.{Each}

-- the constant of each claim is from -1,000,000 to 1,000,000
abbrev pub InRange : List Bound → Type 0
InRange bs = Each (λ b. (neg_ℤ (pos 1000000) ≤ℤ b.most) × (b.most ≤ℤ pos 1000000)) bs

-- the same of a literal's bound, which may be a denial
abbrev pub Small : Bound → Type 0
Small b = (neg_ℤ (pos 1000001) ≤ℤ b.most) × (b.most ≤ℤ pos 1000000)

-- the numbers are at most 0, and no lower than k bounds in a row can make them
abbrev pub Inside : ℕ → List ℤ → Type 0
Inside k row = (x : ℕ) → x < length row → (pos 0 ≤ℤ (num row x +ℤ pos (k * 1000001))) × (num row x ≤ℤ pos 0)
