-- The merges that a list of literals leads to, the labels that they leave, and what joins two terms. A log of merges
-- has its latest first. Assumes nothing.
use Rattle.std.specs.Prelude.{ℕ, zero, suc, ◌%◌, min, max, Bool, true, false, if◌then◌else◌, not, ◌&&◌, ◌||◌, List, [], ◌∷◌, length, Some, None, Option, ◌==◌, nat_eq, slice_index, slice_index_or}
use Rattle.theory.specs.declared.term.Term.{Term}
use Rattle.theory.specs.Literals.{claim}
use Rattle.theory.specs.Terms.{at}
use Rattle.congruence.specs.declared.claim.Claim.{Claim}
use Rattle.congruence.specs.declared.step.Step.{Step}
use Rattle.congruence.specs.declared.step.Reason.{Reason}
use Rattle.congruence.specs.declared.step.Reason.TheVariants.{Congruence, Asserted}
use Rattle.congruence.specs.Table.{arg}

-- ---- searches below a limit

abbrev pub when : {A : Type 0} → Bool → A → Option A
when true x = Some x
when false x = None

abbrev pub or_else : {A : Type 0} → Option A → Option A → Option A
or_else (Some x) y = Some x
or_else None y = y

-- what is found for the least number below a limit for which something is found
unfoldable pub first : {A : Type 0} → ℕ → (ℕ → Option A) → Option A
first zero f = None
first (suc k) f = or_else (first k f) (f k)

-- what is found for the greatest number below a limit for which something is found
unfoldable pub last : {A : Type 0} → ℕ → (ℕ → Option A) → Option A
last zero f = None
last (suc k) f = or_else (f k) (last k f)

abbrev pub every_below : ℕ → (ℕ → Bool) → Bool
every_below zero p = true
every_below (suc k) p = p k && every_below k p

abbrev pub any_below : ℕ → (ℕ → Bool) → Bool
any_below zero p = false
any_below (suc k) p = p k || any_below k p

-- ---- labels

-- the label `high` becomes `low`
abbrev pub relabel : ℕ → ℕ → ℕ → ℕ
relabel high low c = if c == high then low else c

-- the label of a term after the merges of a log
abbrev pub label : List Step → ℕ → ℕ
label [] t = t
label (s ∷ older) t = relabel s.high s.low (label older t)

-- the merge of the classes of `a` and `b`, under the lower label
abbrev pub merge : List Step → ℕ → ℕ → Reason → Step
merge log a b reason =
    record { left = a; right = b; high = max (label log a) (label log b); low = min (label log a) (label log b); reason = reason }

-- ---- the log of a list

-- whether two terms are congruent
abbrev pub alike : List Term → (ℕ → ℕ) → ℕ → ℕ → Bool
alike ts num t u =
    ((at ts t).symbol == (at ts u).symbol) && ((at ts t).arity == (at ts u).arity
    && every_below (at ts t).arity (λ i. nat_eq (num (arg (at ts t) i)) (num (arg (at ts u) i))))

abbrev pub twin_at : List Term → (ℕ → ℕ) → ℕ → ℕ → Option ℕ
twin_at ts num t u = when (not (num t == num u) && alike ts num t u) u

-- the nearest earlier term that is congruent to `t` and has another label
abbrev pub twin : List Term → (ℕ → ℕ) → ℕ → Option ℕ
twin ts num t = last t (twin_at ts num t)

abbrev pub merge_on : List Step → ℕ → Option ℕ → List Step
merge_on log t None = log
merge_on log t (Some u) = merge log t u Congruence ∷ log

-- merges a term with its twin
abbrev pub pass : List Term → ℕ → List Step → List Step
pass ts t log = merge_on log t (twin ts (label log) t)

-- merges each of the first `n` terms with its twin, in their order
unfoldable pub sweep : List Term → ℕ → List Step → List Step
sweep ts zero log = log
sweep ts (suc t) log = pass ts t (sweep ts t log)

-- sweeps `k` times over all terms; a sweep that merges nothing is the last that changes anything
unfoldable pub settle : List Term → ℕ → List Step → List Step
settle ts zero log = log
settle ts (suc k) log = settle ts k (sweep ts (length ts) log)

-- the log once `a` and `b` have one label, for a reason
abbrev pub join : List Term → ℕ → ℕ → Reason → List Step → List Step
join ts a b reason log =
    if label log a == label log b then log else settle ts (length ts) (merge log a b reason ∷ log)

-- the claim numbered `i`
abbrev pub pair_at : List Claim → ℕ → Claim
pair_at claims i = slice_index_or claims i record { left = 0; right = 0 }

-- the two terms of a literal
abbrev pub pair_of : List Claim → ℕ → Claim
pair_of claims l = pair_at claims (claim l)

-- the log with one more literal, which stands at a position; a denial merges nothing
abbrev pub absorb : List Term → List Claim → ℕ → ℕ → List Step → List Step
absorb ts claims p l log =
    if l % 2 == 0 then join ts (pair_of claims l).left (pair_of claims l).right (Asserted p) log else log

-- the log of the first `k` literals of a list
unfoldable pub log_at : List Term → List Claim → List ℕ → ℕ → List Step
log_at ts claims ls zero = settle ts (length ts) []
log_at ts claims ls (suc k) = absorb ts claims k (slice_index ls k) (log_at ts claims ls k)

abbrev pub log_of : List Term → List Claim → List ℕ → List Step
log_of ts claims ls = log_at ts claims ls (length ls)

-- ---- what joins two terms

-- whether a merge rests on a position: it was asserted there, or the position is needed to join two of its arguments,
-- by what `needs` says of the merges before it
abbrev pub rests : List Term → (ℕ → ℕ → Bool) → ℕ → Step → Reason → Bool
rests ts needs p s (Asserted q) = q == p
rests ts needs p s Congruence =
    any_below (at ts s.left).arity (λ i. needs (arg (at ts s.left) i) (arg (at ts s.right) i))

-- whether a position is on the way from `t` to `u` by a merge: to one of its ends, and from the other end on
abbrev pub crosses : (ℕ → ℕ) → (ℕ → ℕ → Bool) → Step → ℕ → ℕ → Bool
crosses num needs s t u =
    if num t == num s.left then needs t s.left || needs s.right u else needs t s.right || needs s.left u

-- whether the literal at position `p` is needed to join two terms that have one label: for the merge at which they met,
-- or to reach its ends
unfoldable pub needed : List Term → List Step → ℕ → ℕ → ℕ → Bool
needed ts [] p t u = false
needed ts (s ∷ older) p t u =
    if label older t == label older u then needed ts older p t u
    else crosses (label older) (needed ts older p) s t u || rests ts (needed ts older p) p s s.reason
