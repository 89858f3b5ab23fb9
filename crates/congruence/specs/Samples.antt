-- Sample lists over small tables. Assumes nothing.
use Rattle.std.specs.Prelude.{◌≡◌, ℕ, [], ◌∷◌, pos}
use Rattle.theory.specs.declared.term.Term.{Term}
use Rattle.theory.specs.Meaning.{possible, impossible, Meaning}
use Rattle.congruence.specs.declared.claim.Claim.{Claim}
use Rattle.congruence.specs.Equality.{equality}

abbrev pub constant : ℕ → Term
constant f = record { symbol = f; arity = 0; args = 0 ∷ 0 ∷ [] }

abbrev pub applied : ℕ → ℕ → ℕ → Term
applied f a b = record { symbol = f; arity = 2; args = a ∷ b ∷ [] }

abbrev pub same : ℕ → ℕ → Claim
same a b = record { left = a; right = b }

-- five symbols; 0 = 1, 1 = 2, 3 = 4, 4 = 0
abbrev pub five : Meaning
five =
    equality (constant 0 ∷ constant 1 ∷ constant 2 ∷ constant 3 ∷ constant 4 ∷ [])
    (same 0 1 ∷ same 1 2 ∷ same 3 4 ∷ same 4 0 ∷ [])

-- three symbols, 3 = f(0, 2) and 4 = f(1, 2); 0 = 1, 3 = 4
abbrev pub parts : Meaning
parts =
    equality (constant 0 ∷ constant 1 ∷ constant 2 ∷ applied 3 0 2 ∷ applied 3 1 2 ∷ []) (same 0 1 ∷ same 3 4 ∷ [])

-- two terms of one symbol without arguments; 0 = 1, 0 = 0
abbrev pub twice : Meaning
twice = equality (constant 7 ∷ constant 7 ∷ []) (same 0 1 ∷ same 0 0 ∷ [])

pub record Samples : Type 0 where
  pub chain : five.answer (0 ∷ 2 ∷ 4 ∷ 7 ∷ []) ≡ possible
  pub chain_written : five.written (0 ∷ 2 ∷ 4 ∷ 7 ∷ []) ≡ pos 0 ∷ pos 0 ∷ pos 0 ∷ pos 3 ∷ pos 3 ∷ []
  pub parts_equal : parts.written (0 ∷ []) ≡ pos 0 ∷ pos 0 ∷ pos 2 ∷ pos 3 ∷ pos 3 ∷ []
  pub parts_clash : parts.answer (0 ∷ 3 ∷ []) ≡ impossible (0 ∷ 1 ∷ [])
  pub parts_other : parts.answer (3 ∷ 0 ∷ []) ≡ impossible (0 ∷ 1 ∷ [])
  -- terms of one symbol without arguments are joined with nothing asserted
  pub twice_written : twice.written [] ≡ pos 0 ∷ pos 0 ∷ []
  pub twice_clash : twice.answer (1 ∷ []) ≡ impossible (0 ∷ [])
  -- a term differs from itself in no fit
  pub itself : twice.answer (3 ∷ []) ≡ impossible (0 ∷ [])
