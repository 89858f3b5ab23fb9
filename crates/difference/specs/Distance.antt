-- The theory of distances: a claim bounds the difference of two terms, and every list of numbers is a fit. Assumes
-- nothing.
use Rattle.std.specs.Prelude.{◌≡◌, ℕ, ◌%◌, ◌≤◌, if◌then◌else◌, List, [], map, length, ℤ, pos, ◌-ℤ◌, neg_ℤ, ◌==◌}
use Rattle.theory.specs.Literals.{claim, Proper}
use Rattle.theory.specs.Meaning.{Answer, possible, impossible, Meaning, Lawful}
use Rattle.difference.specs.declared.bound.Bound.{Bound}
use Rattle.difference.specs.Bounds.{at, Keeps, Named, Greatest, NegativeCycle, Core}
use Rattle.difference.specs.Settling.{Outcome, fits, clash, outcome}

-- a - b ≤ c is denied by b - a ≤ -c - 1
abbrev pub denied : Bound → Bound
denied b = record { term = b.base; base = b.term; most = neg_ℤ b.most -ℤ pos 1 }

-- what a literal says: the claim, or its denial
abbrev pub bound_of : List Bound → ℕ → Bound
bound_of claims l = if l % 2 == 0 then at claims (claim l) else denied (at claims (claim l))

-- what a list of literals says
abbrev pub said : List Bound → List ℕ → List Bound
said claims ls = map (bound_of claims) ls

abbrev pub answer_of : Outcome → Answer
answer_of (fits row) = possible
answer_of (clash core) = impossible core

abbrev pub row_of : Outcome → List ℤ
row_of (fits row) = row
row_of (clash core) = []

abbrev pub distances : ℕ → List Bound → Meaning
distances m claims = record {
  claims = length claims;
  terms = m;
  Admits = λ v. Unit {0};
  Holds = λ l v. Keeps v (bound_of claims l);
  answer = λ ls. answer_of (outcome m (said claims ls));
  written = λ ls. row_of (outcome m (said claims ls));
}

-- ---- what is proved of it

-- the law of a theory; what is written; when a list is impossible; what a core has
pub record Standing (m : ℕ) (claims : List Bound) : Type 0 where
  pub law : Lawful (distances m claims)
  -- what is written is the greatest fit at or below 0
  pub greatest : (ls : List ℕ) → Proper (length claims) ls → (distances m claims).answer ls ≡ possible
      → Greatest m (said claims ls) ((distances m claims).written ls)
  -- a core is the positions of one simple negative cycle
  pub cyclic : (ls core : List ℕ) → Proper (length claims) ls → (distances m claims).answer ls ≡ impossible core
      → Core (said claims ls) core
  -- and a possible list has no negative cycle
  pub acyclic : (ls ps : List ℕ) → Proper (length claims) ls → (distances m claims).answer ls ≡ possible
      → NegativeCycle (said claims ls) ps → ⊥

abbrev pub Stands : Type 0
Stands =
    (m : ℕ) (claims : List Bound) → m ≤ 256 → length claims ≤ 128 → Named m claims → Standing m claims
