-- Where lines stand. Assumes nothing.
use Rattle.std.specs.Prelude.{ℕ, ◌+◌, Bool, false, if◌then◌else◌, List, [], ◌∷◌, Option, Some, None}
use Rattle.std.specs.List.{find, slice_split, before_first}
use Rattle.std.specs.Str.{bytes_eq}
use Rattle.book.specs.declared.word.Kind.{Kind}
use Rattle.book.specs.declared.word.Name.TheVariants.{Kind as kind}
use Rattle.book.specs.Pieces.{hash, blank}
use Rattle.book.specs.Words.{spelling, filled}

-- the first word of a line, before its comment
abbrev pub first_word : List ℕ → Option (List ℕ)
first_word line = find filled (slice_split blank (before_first hash line))

-- a word, if there is one, spells the name of a kind
abbrev pub names_kind : Kind → Option (List ℕ) → Bool
names_kind k None = false
names_kind k (Some w) = bytes_eq w (spelling (kind k))

-- a line of a kind, by its first word
abbrev pub is_of : Kind → List ℕ → Bool
is_of k line = names_kind k (first_word line)

-- where the lines of a kind stand, the first line having the number n
unfoldable pub places : Kind → ℕ → List (List ℕ) → List ℕ
places k n [] = []
places k n (l ∷ ls) = if is_of k l then n ∷ places k (n + 1) ls else places k (n + 1) ls
