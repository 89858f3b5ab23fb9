-- The edges of the limits: the last rows that are taken, and the first that are refused. Assumes nothing.
use Rattle.std.specs.Prelude.{◌≡◌, ℕ, ◌%◌, List, [], ◌∷◌, replicate, pos, neg_ℤ, ◌==◌}
use Rattle.theory.specs.declared.term.Term.{Term}
use Rattle.theory.specs.Refusals as theory
use Rattle.congruence.specs.Samples.{constant, same}
use Rattle.equality.specs.Checks as equality
use Rattle.difference.specs.Samples.{apart}
use Rattle.distance.specs.Checks as distance
use Rattle.rules.specs.Clauses.{Book, set_of, row_of}
use Rattle.rules.specs.Refusals as rules
use Rattle.clauses.specs.Rows.{Formed, Barred}

-- just one cause to refuse holds, and it has this number
pub record RefusedBy {R : Type 0} (number : R → ℕ) (Barred : R → Type 0) (code : ℕ) : Type 0 where
  pub cause : R
  pub barred : Barred cause
  pub only : (r : R) → Barred r → r ≡ cause
  pub numbered : number cause ≡ code

-- the row of these clauses is opened where there are `n` claims
pub record Opens (n : ℕ) (book : List (List ℕ)) : Type 0 where
  pub formed : Formed (row_of book) book
  pub proper : Book n book

-- it is refused, by this number
abbrev pub Closed : ℕ → List (List ℕ) → ℕ → Type 0
Closed n book code = RefusedBy rules.number (Barred n (row_of book)) code

-- two terms without arguments
abbrev pub two_terms : List Term
two_terms = constant 0 ∷ constant 1 ∷ []

-- a clause with each of 128 claims
abbrev pub every_claim : List ℕ
every_claim = set_of (λ l. l % 2 == 0)

pub record Edges : Type 0 where
  -- 128 claims are taken, and 129 are refused by 1, in both theories
  pub equal_128 : equality.Sound two_terms (replicate 128 (same 0 1))
  pub equal_129 : RefusedBy theory.number (equality.Barred two_terms (replicate 129 (same 0 1))) 1
  pub distant_128 : distance.Sound two_terms (replicate 128 (apart 0 1 (pos 0)))
  pub distant_129 : RefusedBy theory.number (distance.Barred two_terms (replicate 129 (apart 0 1 (pos 0)))) 1
  -- 512 clauses are opened, and 513 are refused by 1
  pub clauses_512 : Opens 0 (replicate 512 [])
  pub clauses_513 : Closed 0 (replicate 513 []) 1
  -- 4,096 literals are opened, and 4,097 are refused by 1
  pub literals_4096 : Opens 128 (replicate 32 every_claim)
  pub literals_4097 : Closed 128 ((0 ∷ []) ∷ replicate 32 every_claim) 1
  -- constants from -1,000,000 to 1,000,000 are in range, and those next to them are refused by 3
  pub in_range : distance.Sound two_terms (apart 0 1 (pos 1000000) ∷ apart 0 1 (neg_ℤ (pos 1000000)) ∷ [])
  pub too_high : RefusedBy theory.number (distance.Barred two_terms (apart 0 1 (pos 1000001) ∷ [])) 3
  pub too_low : RefusedBy theory.number (distance.Barred two_terms (apart 0 1 (neg_ℤ (pos 1000001)) ∷ [])) 3
