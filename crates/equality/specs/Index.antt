-- The index of a table: for each term the nearest earlier one with its head. Assumes nothing.
use Rattle.std.specs.Prelude.{◌≡◌, ℕ, ◌<◌, Bool, true, false, ◌&&◌, List, length, None, Option, MatchOption, ◌==◌, slice_index_or}
use Rattle.theory.specs.declared.term.Term.{Term}
use Rattle.theory.specs.Terms.{at}
use Rattle.congruence.specs.Merges.{when, last}

-- two terms have one head: one symbol and one number of arguments
abbrev pub SameHead : List Term → ℕ → ℕ → Type 0
SameHead ts t u = ((at ts t).symbol ≡ (at ts u).symbol) × ((at ts t).arity ≡ (at ts u).arity)

abbrev pub same_head : Term → Term → Bool
same_head t u = t.symbol == u.symbol && t.arity == u.arity

-- the last of some terms that has a head
abbrev pub LastLike : List Term → Term → Option ℕ → Type 0
LastLike ts t o =
    MatchOption o ((w : ℕ) → w < length ts → same_head t (at ts w) ≡ false)
    (λ u. (u < length ts) × (same_head t (at ts u) ≡ true) × ((w : ℕ) → u < w → w < length ts → same_head t (at ts w) ≡ false))

-- the nearest earlier term with the head of `t`, if there is one
abbrev pub nearest : List Term → ℕ → Option ℕ
nearest ts t = last t (λ u. when (same_head (at ts t) (at ts u)) u)

abbrev pub Indexed : List Term → List (Option ℕ) → Type 0
Indexed ts near = (t : ℕ) → t < length ts → slice_index_or near t None ≡ nearest ts t
