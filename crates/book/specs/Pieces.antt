-- How a text is cut. Assumes nothing.
use Rattle.std.specs.Prelude.{ℕ, Bool, if◌then◌else◌, ◌||◌, List, [], ◌∷◌, ◌==◌}
use Rattle.std.specs.List.{onto_first}

-- a line feed, which ends a line
abbrev pub newline : ℕ → Bool
newline b = b == 10

-- a number sign, which begins a comment
abbrev pub hash : ℕ → Bool
hash b = b == 35

-- a space, a tab or a carriage return, which stand between words
abbrev pub blank : ℕ → Bool
blank b = b == 32 || (b == 9 || b == 13)

-- the lines of a text, which each end at a line feed, or at the end of the text: what `slice_split` gives, but for an
-- empty line at the end
unfoldable pub lines : List ℕ → List (List ℕ)
lines [] = []
lines (b ∷ bs) = if newline b then [] ∷ lines bs else onto_first b (lines bs)
