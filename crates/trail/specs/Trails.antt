-- What callers see of a trail. Assumes nothing.
use Rattle.std.specs.Prelude.{ℕ, ◌*◌, not, List, ◌∷◌, Option, map, reverse, length, take, filter, Bool, if◌then◌else◌, Result, Ok, nat_lt, vec_items, slice_index_or}
use Rattle.std.specs.Option.{option_map}
use Rattle.theory.specs.Literals.{complement, names}
use Rattle.rules.specs.declared.entry.Entry.{Entry}
use Rattle.rules.specs.declared.entry.Reason.{Reason}
use Rattle.rules.specs.declared.refusal.Refusal.{Refusal}
use Rattle.rules.specs.declared.refusal.Refusal.TheVariants.{NoSuchLiteral, ClaimOnTrail}
use Rattle.rules.specs.Clauses.{all_below, only}
use Rattle.rules.specs.States.{literals, asserted}
use Rattle.rules.specs.Rules.{demand, latest, above, hit}
use Rattle.trail.specs.declared.trail.Trail.{Trail}

-- how many claims there are
abbrev pub claims_of : Trail → ℕ
claims_of t = t.claims

-- the entries, the latest first
abbrev pub trail_of : Trail → List Entry
trail_of t = reverse (vec_items t.entries)

-- ---- putting a literal on a trail, where there are `n` claims

abbrev pub push_says : ℕ → List Entry → ℕ → Result (Unit {0}) Refusal
push_says n t l = demand (nat_lt l (2 * n)) NoSuchLiteral (demand (not (names (literals t) l)) ClaimOnTrail (Ok tt))

abbrev pub push_leaves : ℕ → List Entry → ℕ → Reason → List Entry
push_leaves n t l r = if nat_lt l (2 * n) then (if names (literals t) l then t else record { literal = l; reason = r } ∷ t) else t

abbrev pub pushed : Trail → ℕ → Reason → List Entry
pushed t l r = push_leaves (claims_of t) (trail_of t) l r

-- ---- looking back from the end

-- the latest entry that a conflict hits, with its position
abbrev pub latest_at : List ℕ → List Entry → Option (Entry × ℕ)
latest_at C t = option_map (λ at. (at.0, length at.1)) (latest C t)

-- the conflict literal whose complement is of a level above `k`, if there is just one
abbrev pub sole_above : ℕ → List ℕ → List Entry → Option ℕ
sole_above k C t = option_map (λ e. complement e.literal) (only (filter (hit C) (above k t)))

-- ---- cores

-- the complements of a core's literals, where `next` comes after the literals of a list
abbrev pub blamed : List ℕ → ℕ → List ℕ → List ℕ
blamed ls next core = map (λ p. complement (slice_index_or ls p next)) core

-- of a trail's literals, as many as a clause has room for
abbrev pub blamed_on : Trail → ℕ → List ℕ → List ℕ
blamed_on t next core = take 256 (blamed (asserted (trail_of t)) next core)
