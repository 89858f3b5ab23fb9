-- Sample lists of bounds. Assumes nothing.
use Rattle.std.specs.Prelude.{◌≡◌, ℕ, [], ◌∷◌, ℤ, pos, neg_ℤ}
use Rattle.theory.specs.Meaning.{possible, impossible, Meaning}
use Rattle.difference.specs.declared.bound.Bound.{Bound}
use Rattle.difference.specs.Distance.{bound_of, distances}

-- a - b ≤ c
abbrev pub apart : ℕ → ℕ → ℤ → Bound
apart a b c = record { term = a; base = b; most = c }

-- 0 - 1 ≤ -1, 1 - 0 ≤ 0
abbrev pub tight : Meaning
tight = distances 2 (apart 0 1 (neg_ℤ (pos 1)) ∷ apart 1 0 (pos 0) ∷ [])

-- 0 - 1 ≤ -1, 1 - 0 ≤ 1
abbrev pub loose : Meaning
loose = distances 2 (apart 0 1 (neg_ℤ (pos 1)) ∷ apart 1 0 (pos 1) ∷ [])

-- 0 - 1 ≤ -2, 2 - 0 ≤ 5, 1 - 2 ≤ -3, 2 - 0 ≤ 4, 0 - 0 ≤ -1
abbrev pub round : Meaning
round =
    distances 3
    (apart 0 1 (neg_ℤ (pos 2)) ∷ apart 2 0 (pos 5) ∷ apart 1 2 (neg_ℤ (pos 3)) ∷ apart 2 0 (pos 4) ∷ apart 0 0 (neg_ℤ (pos 1)) ∷ [])

pub record Samples : Type 0 where
  pub tight_clash : tight.answer (0 ∷ 2 ∷ []) ≡ impossible (0 ∷ 1 ∷ [])
  pub loose_fit : loose.answer (0 ∷ 2 ∷ []) ≡ possible
  pub loose_written : loose.written (0 ∷ 2 ∷ []) ≡ neg_ℤ (pos 1) ∷ pos 0 ∷ []
  -- the denial of 0 - 1 ≤ 3 is 1 - 0 ≤ -4
  pub denial : bound_of (apart 0 1 (pos 3) ∷ []) 1 ≡ apart 1 0 (neg_ℤ (pos 4))
  pub nothing_written : round.written [] ≡ pos 0 ∷ pos 0 ∷ pos 0 ∷ []
  -- the numbers as high as 0 allows
  pub round_written : round.written (0 ∷ 2 ∷ 4 ∷ []) ≡ neg_ℤ (pos 5) ∷ neg_ℤ (pos 3) ∷ pos 0 ∷ []
  -- a core leaves out what is not on the cycle
  pub round_clash : round.answer (0 ∷ 2 ∷ 4 ∷ 6 ∷ []) ≡ impossible (0 ∷ 2 ∷ 3 ∷ [])
  -- one core, whatever comes after it
  pub round_stays : round.answer (0 ∷ 2 ∷ 4 ∷ 6 ∷ 8 ∷ []) ≡ impossible (0 ∷ 2 ∷ 3 ∷ [])
  -- a term is never less than itself, and its denial always holds
  pub itself : round.answer (8 ∷ []) ≡ impossible (0 ∷ [])
  pub itself_denied : round.answer (9 ∷ []) ≡ possible
