-- What a table finds by going through numbers. Assumes nothing.
use Rattle.std.specs.Prelude.{◌≡◌, ℕ, ◌<◌, ◌≤◌, Bool, true, false, not, Option, MatchOption}
use Rattle.std.specs.List.{list_any}
use Rattle.std.specs.Option.{option_map_or}
use Rattle.rules.specs.States.{State}
use Rattle.rules.specs.Rules.{true_on, live_in}

-- the first number from `a` on and below `b` that passes a test, if one does
abbrev pub First : (a b : ℕ) → (ℕ → Bool) → Option ℕ → Type 0
First a b test o =
    MatchOption o ((k : ℕ) → a ≤ k → k < b → test k ≡ false)
    (λ i. (a ≤ i) × (i < b) × (test i ≡ true) × ((k : ℕ) → a ≤ k → k < i → test k ≡ false))

-- a live clause that has no true literal
abbrev pub untrue : State → ℕ → Bool
untrue s c = option_map_or (λ R. not (list_any (true_on s.trail) R)) (live_in s c) false
