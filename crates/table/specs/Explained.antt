-- The clause by which an entry followed from those before it. Assumes nothing.
use Rattle.std.specs.Prelude.{ℕ, List, [], ◌∷◌, Option, None, if◌then◌else◌, length, ◌==◌}
use Rattle.rules.specs.declared.entry.Entry.{Entry}
use Rattle.rules.specs.Rules.{explained}

-- of the entry at a position: its reason, or what the theory blames; there is none where it was decided, or where
-- there is no entry
abbrev pub explained_at : (ℕ → List Entry → Option (List ℕ)) → (ℕ → Option (List ℕ)) → List Entry → ℕ → Option (List ℕ)
explained_at blames clause_at [] p = None
explained_at blames clause_at (e ∷ t) p = if p == length t then explained blames clause_at e.reason e.literal t else explained_at blames clause_at t p
