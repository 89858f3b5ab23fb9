-- The theory of equality: a claim says that two terms are equal. Assumes nothing.
use Rattle.std.specs.Prelude.{◌≡◌, ℕ, zero, suc, ◌+◌, ◌%◌, ◌<◌, ◌≤◌, Bool, true, not, ◌&&◌, ◌||◌, List, [], ◌∷◌, length, get_or, ℤ, pos, Some, None, Option, ◌==◌, ◌≢◌, ◌↔◌, slice_index}
use Rattle.theory.specs.declared.term.Term.{Term}
use Rattle.theory.specs.Literals.{has, Proper}
use Rattle.theory.specs.Meaning.{Answer, possible, impossible, Meaning, num, Lawful}
use Rattle.theory.specs.Positions.{listed}
use Rattle.congruence.specs.declared.claim.Claim.{Claim}
use Rattle.congruence.specs.Table.{Lower}
use Rattle.congruence.specs.Congruence.{Fit, Joined}
use Rattle.congruence.specs.Merges.{when, first, label, pair_at, pair_of, log_of, needed}

-- a claim holds of two equal numbers, its denial of two that differ
abbrev pub Says : ℕ → ℤ → ℤ → Type 0
Says zero x y = x ≡ y
Says (suc _) x y = x ≡ y → ⊥

-- a denial whose two terms have one label
abbrev pub clashes : (ℕ → ℕ) → List Claim → ℕ → Bool
clashes num claims l = not (l % 2 == 0) && num (pair_of claims l).left == num (pair_of claims l).right

-- the position of the first denial that clashes
abbrev pub clash : List Term → List Claim → List ℕ → Option ℕ
clash ts claims ls = first (length ls) (λ p. when (clashes (label (log_of ts claims ls)) claims (slice_index ls p)) p)

-- a denial and what joins its two terms
abbrev pub core : List Term → List Claim → List ℕ → ℕ → List ℕ
core ts claims ls d =
    listed 0 (length ls)
    (λ p. (d == p) || needed ts (log_of ts claims ls) p (pair_of claims (slice_index ls d)).left (pair_of claims (slice_index ls d)).right)

abbrev pub answer_of : (ℕ → List ℕ) → Option ℕ → Answer
answer_of core_at None = possible
answer_of core_at (Some d) = impossible (core_at d)

-- the values of a function, from `low` on, `count` of them
unfoldable pub row : ℕ → ℕ → (ℕ → ℤ) → List ℤ
row low zero f = []
row low (suc count) f = f low ∷ row (low + 1) count f

abbrev pub equality : List Term → List Claim → Meaning
equality ts claims = record {
  claims = length claims;
  terms = length ts;
  Admits = λ v. Fit ts (num v);
  Holds = λ l v. Says (l % 2) (num v (pair_of claims l).left) (num v (pair_of claims l).right);
  answer = λ ls. answer_of (core ts claims ls) (clash ts claims ls);
  written = λ ls. row 0 (length ts) (λ t. pos (label (log_of ts claims ls) t));
}

-- each claim names two terms of the table
abbrev pub Named : List Term → List Claim → Type 0
Named ts claims =
    (i : ℕ) → i < length claims → ((pair_at claims i).left < length ts) × ((pair_at claims i).right < length ts)

-- ---- what is proved of it

-- the literal at position `p` asserts that `t` and `u` are equal
pub record Asserts (claims : List Claim) (ls : List ℕ) (p t u : ℕ) : Type 0 where
  pub within : p < length ls
  pub even : get_or ls p 0 % 2 ≡ 0
  pub left_is : (pair_of claims (slice_index ls p)).left ≡ t
  pub right_is : (pair_of claims (slice_index ls p)).right ≡ u

abbrev pub Asserted : List Claim → List ℕ → ℕ → ℕ → Type 0
Asserted claims ls t u = (p : ℕ) × Asserts claims ls p t u

-- the literal at position `p` denies that two terms are equal that the asserted equalities join
pub record Contradicted (ts : List Term) (claims : List Claim) (ls : List ℕ) (p : ℕ) : Type 0 where
  pub within : p < length ls
  pub odd : get_or ls p 0 % 2 ≡ 1
  pub joined : Joined ts (Asserted claims ls) (pair_of claims (slice_index ls p)).left (pair_of claims (slice_index ls p)).right

-- the lowest number of a term that the asserted equalities join with `t`
pub record LowestJoined (ts : List Term) (claims : List Claim) (ls : List ℕ) (t k : ℕ) : Type 0 where
  pub joined : Joined ts (Asserted claims ls) t k
  pub lowest : (u : ℕ) → Joined ts (Asserted claims ls) t u → k ≤ u

-- a number for each term: the lowest number of a term joined with it. Two have one number exactly if they are joined
pub record Lowest (ts : List Term) (claims : List Claim) (ls : List ℕ) (v : List ℤ) : Type 0 where
  pub long : length v ≡ length ts
  pub lowest : (t : ℕ) → t < length ts → (k : ℕ) × (num v t ≡ pos k) × LowestJoined ts claims ls t k
  pub same : (t u : ℕ) → t < length ts → u < length ts
      → (num v t ≡ num v u) ↔ Joined ts (Asserted claims ls) t u

-- just one position of a core has a denial
pub record OneDenial (ls ps : List ℕ) : Type 0 where
  pub place : ℕ
  pub there : has ps place ≡ true
  pub denies : get_or ls place 0 % 2 ≡ 1
  pub others : (p : ℕ) → has ps p ≡ true → (p ≢ place) → slice_index ls p % 2 ≡ 0

-- the law of a theory; what is written; when a list is impossible; what a core has
pub record Standing (ts : List Term) (claims : List Claim) : Type 0 where
  pub law : Lawful (equality ts claims)
  -- what is written, for a possible list or not
  pub lowest : (ls : List ℕ) → Proper (length claims) ls → Lowest ts claims ls ((equality ts claims).written ls)
  -- a list is impossible exactly if it denies what it joins
  pub contradicted : (ls ps : List ℕ) → Proper (length claims) ls → (equality ts claims).answer ls ≡ impossible ps
      → (p : ℕ) × Contradicted ts claims ls p
  pub uncontradicted : (ls : List ℕ) → Proper (length claims) ls → (equality ts claims).answer ls ≡ possible
      → (p : ℕ) → Contradicted ts claims ls p → ⊥
  -- a core has one denial
  pub denial : (ls ps : List ℕ) → Proper (length claims) ls → (equality ts claims).answer ls ≡ impossible ps
      → OneDenial ls ps

abbrev pub Stands : Type 0
Stands =
    (ts : List Term) (claims : List Claim) → length ts ≤ 256 → Lower ts → length claims ≤ 128 → Named ts claims
    → Standing ts claims
