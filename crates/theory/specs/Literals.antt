-- Literals, and lists of them. Claim i has the literal 2 * i, and its denial is 2 * i + 1; each is the other's
-- complement. Assumes nothing.
use Rattle.std.specs.Prelude.{◌≡◌, ℕ, ◌+◌, ◌-◌, ◌*◌, ◌/◌, ◌%◌, ◌<◌, Bool, true, false, not, ◌&&◌, ◌||◌, List, [], ◌∷◌, ◌==◌}
use Rattle.std.specs.List.{All}

abbrev pub claim : ℕ → ℕ
claim l = l / 2

abbrev pub complement : ℕ → ℕ
complement l = (l + 1) - 2 * (l % 2)

abbrev pub has : List ℕ → ℕ → Bool
has [] l = false
has (m ∷ ms) l = m == l || has ms l

-- the list has the literal or its complement
abbrev pub names : List ℕ → ℕ → Bool
names ms l = has ms l || has ms (complement l)

-- no claim twice
abbrev pub apart : List ℕ → Bool
apart [] = true
apart (l ∷ ls) = not (names ls l) && apart ls

-- literals of n claims, no claim twice
pub record Proper (n : ℕ) (ls : List ℕ) : Type 0 where
  pub below : All (λ l. l < 2 * n) ls
  pub apart_claims : apart ls ≡ true
