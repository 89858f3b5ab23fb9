-- The worked books. A literal 2 * i is the claim numbered i, and 2 * i + 1 its denial. Assumes nothing.
use Rattle.std.specs.Prelude.{◌≡◌, ℕ, List, [], ◌∷◌, ℤ, pos, neg_ℤ, Some, None, Result, Ok, Err}
use Rattle.theory.specs.declared.term.Term.{Term}
use Rattle.theory.specs.Meaning.{possible, impossible, Meaning}
use Rattle.congruence.specs.declared.claim.Claim.{Claim}
use Rattle.congruence.specs.Equality.{equality}
use Rattle.congruence.specs.Samples.{constant, same, five, parts}
use Rattle.difference.specs.declared.bound.Bound.{Bound}
use Rattle.difference.specs.Distance.{bound_of, distances}
use Rattle.difference.specs.Samples.{apart, tight, loose}
use Rattle.rules.specs.declared.step.Step.{Step}
use Rattle.rules.specs.declared.step.Step.TheVariants.{Decide, Propagate, Imply, Conflict, Clash, Resolve, Jump, Fit, NoFit}
use Rattle.rules.specs.declared.step.Verdict.TheVariants as verdict
use Rattle.rules.specs.States.{opened}
use Rattle.history.specs.Replays.{place_after}
use Rattle.worked.specs.Replays.{Replay}
use Rattle.worked.specs.Edges.{Edges}

-- three symbols without arguments
abbrev pub three : List Term
three = constant 0 ∷ constant 1 ∷ constant 2 ∷ []

-- all three pairs: 0 = 1, 1 = 2, 0 = 2
abbrev pub pairs : Meaning
pairs = equality three (same 0 1 ∷ same 1 2 ∷ same 0 2 ∷ [])

-- two of them: 0 = 1, 0 = 2
abbrev pub fork : Meaning
fork = equality three (same 0 1 ∷ same 0 2 ∷ [])

-- 0 ≠ 1 or 0 = 2; 0 ≠ 1 or 0 ≠ 2
abbrev pub fork_book : List (List ℕ)
fork_book = (1 ∷ 2 ∷ []) ∷ (1 ∷ 3 ∷ []) ∷ []

-- with 0 = 1 the second clause is false; once the conflict has just one literal, 0 ≠ 1 is learned, as the clause 512
abbrev pub fork_steps : List Step
fork_steps = Decide 0 ∷ Propagate 0 2 ∷ Conflict 1 ∷ Jump 0 512 ∷ Resolve ∷ Jump 0 512 ∷ Decide 3 ∷ Fit 3 ∷ []

abbrev pub fork_replies : List (Result ℕ ℕ)
fork_replies = Ok 1 ∷ Ok 2 ∷ Ok 3 ∷ Err 18 ∷ Ok 4 ∷ Ok 5 ∷ Ok 6 ∷ Ok 7 ∷ []

-- 0 = 1; f(0, 2) ≠ f(1, 2)
abbrev pub parts_book : List (List ℕ)
parts_book = (0 ∷ []) ∷ (3 ∷ []) ∷ []

-- there is no fit only once there is a conflict, and nothing left of it
abbrev pub parts_steps : List Step
parts_steps = Propagate 0 0 ∷ Propagate 1 3 ∷ NoFit ∷ Clash ∷ Resolve ∷ Resolve ∷ NoFit ∷ []

abbrev pub parts_replies : List (Result ℕ ℕ)
parts_replies = Ok 1 ∷ Ok 2 ∷ Err 13 ∷ Ok 3 ∷ Ok 4 ∷ Ok 5 ∷ Ok 6 ∷ []

-- one empty clause, which nothing keeps
abbrev pub Unkept : Meaning → Type 0
Unkept M = Replay M ([] ∷ []) (Conflict 0 ∷ NoFit ∷ []) (Ok 1 ∷ Ok 2 ∷ []) (Some verdict.NoFit) 2

pub record WorkedBooks : Type 0 where
  -- five symbols, 0 = 1, 1 = 2, 3 = 4, 4 = 0: the first three can hold and the last not; then the numbers are 0 0 0 3 3
  pub chain : five.answer (0 ∷ 2 ∷ 4 ∷ 7 ∷ []) ≡ possible
  pub chain_written : five.written (0 ∷ 2 ∷ 4 ∷ 7 ∷ []) ≡ pos 0 ∷ pos 0 ∷ pos 0 ∷ pos 3 ∷ pos 3 ∷ []
  -- 0 = 2 follows from 0 = 1 and 1 = 2, and not from 0 = 1 alone
  pub implied : Replay pairs [] (Decide 0 ∷ Decide 2 ∷ Imply 4 ∷ []) (Ok 1 ∷ Ok 2 ∷ Ok 3 ∷ []) None 3
  pub not_implied : Replay pairs [] (Decide 0 ∷ Imply 4 ∷ []) (Ok 1 ∷ Err 21 ∷ []) None 1
  -- no term differs from itself: the core is that one literal
  pub itself : (equality (constant 0 ∷ []) (same 0 0 ∷ [])).answer (1 ∷ []) ≡ impossible (0 ∷ [])
  -- a - b ≤ -1 and b - a ≤ 0 cannot both hold
  pub tight_clash : tight.answer (0 ∷ 2 ∷ []) ≡ impossible (0 ∷ 1 ∷ [])
  -- a - b ≤ -1 and b - a ≤ 1 can, and then a is -1 and b is 0
  pub loose_fit : loose.answer (0 ∷ 2 ∷ []) ≡ possible
  pub loose_written : loose.written (0 ∷ 2 ∷ []) ≡ neg_ℤ (pos 1) ∷ pos 0 ∷ []
  -- the denial of a - b ≤ 3 is b - a ≤ -4
  pub denial : bound_of (apart 0 1 (pos 3) ∷ []) 1 ≡ apart 1 0 (neg_ℤ (pos 4))
  -- with no term, no claim and no clause there is a fit at once
  pub blank_equal : Replay (equality [] []) [] (Fit 0 ∷ []) (Ok 1 ∷ []) (Some verdict.Fit) 1
  pub blank_distant : Replay (distances 0 []) [] (Fit 0 ∷ []) (Ok 1 ∷ []) (Some verdict.Fit) 1
  -- with an empty clause there is none, whatever the terms and claims
  pub empty_equal : (ts : List Term) (claims : List Claim) → Unkept (equality ts claims)
  pub empty_distant : (m : ℕ) (claims : List Bound) → Unkept (distances m claims)
  -- three symbols: a clause is learned, and there is a fit
  pub fork_fits : Replay fork fork_book fork_steps fork_replies (Some verdict.Fit) 7
  -- a place for three numbers then has 0 1 2, whatever it had
  pub fork_place : (x y z : ℤ) → place_after fork (opened fork_book 7) fork_steps (x ∷ y ∷ z ∷ [])
      ≡ pos 0 ∷ pos 1 ∷ pos 2 ∷ []
  -- three symbols, 3 = f(0, 2) and 4 = f(1, 2): no fit has equal parts and different terms
  pub parts_clash : Replay parts parts_book parts_steps parts_replies (Some verdict.NoFit) 6
  -- and the edges of the limits
  pub edges : Edges
