-- Positions on a trail, whose latest entry is first: an entry's position is the number of those before it. Assumes
-- nothing.
use Rattle.std.specs.Prelude.{ℕ, List, [], ◌∷◌, Option, Some, None, if◌then◌else◌, length, ◌==◌}
use Rattle.rules.specs.declared.entry.Entry.{Entry}
use Rattle.rules.specs.States.{level}

-- the entry at a position
abbrev pub entry_at : List Entry → ℕ → Option Entry
entry_at [] p = None
entry_at (e ∷ t) p = if p == length t then Some e else entry_at t p

-- the level of that entry
abbrev pub level_at : List Entry → ℕ → Option ℕ
level_at [] p = None
level_at (e ∷ t) p = if p == length t then Some (level (e ∷ t)) else level_at t p

-- the position of a literal
abbrev pub position_of : List Entry → ℕ → Option ℕ
position_of [] l = None
position_of (e ∷ t) l = if e.literal == l then Some (length t) else position_of t l
