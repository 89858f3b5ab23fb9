-- The words of a line. Assumes nothing.
use Rattle.std.specs.Prelude.{ℕ, ◌+◌, ◌-◌, ◌*◌, ◌^◌, Bool, not, if◌then◌else◌, ◌&&◌, ◌==◌, List, [], ◌∷◌, map, filter, length, Some, None, codes, Option, nat_lt}
use Rattle.std.specs.Char.{is_ascii_digit}
use Rattle.std.specs.List.{fold, find, list_all, slice_split, before_first}
use Rattle.std.specs.Str.{bytes_eq}
use Rattle.book.specs.declared.word.Name.{Name}
use Rattle.book.specs.declared.word.Name.TheVariants.{Kind as kind, Ask as ask, Rule as rule, Sort as sort}
use Rattle.book.specs.declared.word.Kind.TheVariants.{Theory, Term, Claim, Clause, Row, Allowance, Call, Step}
use Rattle.book.specs.declared.word.Ask.TheVariants.{Assert, TakeBack, Query, Write, Trial, Close}
use Rattle.book.specs.declared.word.Rule.TheVariants.{Decide, Propagate, Imply, Conflict, Clash, Resolve, Jump, Forget, Fit, NoFit}
use Rattle.book.specs.declared.word.Sort.TheVariants.{Equality, Distance}
use Rattle.book.specs.declared.word.Word.{Word}
use Rattle.book.specs.declared.word.Word.TheVariants.{Known, Number, Negative, Other}
use Rattle.book.specs.Pieces.{hash, blank}

-- how a name is written
abbrev pub spelling : Name → List ℕ
spelling (kind Theory) = codes "theory"
spelling (kind Term) = codes "term"
spelling (kind Claim) = codes "claim"
spelling (kind Clause) = codes "clause"
spelling (kind Row) = codes "row"
spelling (kind Allowance) = codes "allowance"
spelling (kind Call) = codes "call"
spelling (kind Step) = codes "step"
spelling (ask Assert) = codes "assert"
spelling (ask TakeBack) = codes "takeback"
spelling (ask Query) = codes "query"
spelling (ask Write) = codes "write"
spelling (ask Trial) = codes "trial"
spelling (ask Close) = codes "close"
spelling (rule Decide) = codes "decide"
spelling (rule Propagate) = codes "propagate"
spelling (rule Imply) = codes "imply"
spelling (rule Conflict) = codes "conflict"
spelling (rule Clash) = codes "clash"
spelling (rule Resolve) = codes "resolve"
spelling (rule Jump) = codes "jump"
spelling (rule Forget) = codes "forget"
spelling (rule Fit) = codes "fit"
spelling (rule NoFit) = codes "nofit"
spelling (sort Equality) = codes "equality"
spelling (sort Distance) = codes "distance"

abbrev pub names : List Name
names =
    kind Theory ∷ kind Term ∷ kind Claim ∷ kind Clause ∷ kind Row ∷ kind Allowance ∷ kind Call ∷ kind Step
    ∷ ask Assert ∷ ask TakeBack ∷ ask Query ∷ ask Write ∷ ask Trial ∷ ask Close
    ∷ rule Decide ∷ rule Propagate ∷ rule Imply ∷ rule Conflict ∷ rule Clash ∷ rule Resolve ∷ rule Jump ∷ rule Forget
    ∷ rule Fit ∷ rule NoFit
    ∷ sort Equality ∷ sort Distance ∷ []

-- the names of k bytes, in the order of `names`
abbrev pub names_of_length : ℕ → List Name
names_of_length k = filter (λ n. length (spelling n) == k) names

-- the first of some names that a word spells
unfoldable pub first_spelled : List Name → List ℕ → Option Name
first_spelled ns w = find (λ n. bytes_eq w (spelling n)) ns

-- the name that a word spells
abbrev pub name_of : List ℕ → Option Name
name_of w = first_spelled names w

-- the digits 0 to 9
abbrev pub digits : List ℕ → Bool
digits w = list_all is_ascii_digit w

-- the number that digits write in base ten, after digits that write n
unfoldable pub value_after : ℕ → List ℕ → ℕ
value_after n w = fold (λ m b. m * 10 + (b - 48)) n w

-- a number, if 64 bits can hold it
abbrev pub held : ℕ → Option ℕ
held n = if nat_lt n (2 ^ 64) then Some n else None

-- what has a byte at all
abbrev pub filled : List ℕ → Bool
filled w = not (length w == 0)

-- one digit or more, and nothing else
abbrev pub numeral : List ℕ → Bool
numeral w = filled w && digits w

-- a word that is not signed
abbrev pub natural_of : List ℕ → Word
natural_of w = if numeral w then Number (held (value_after 0 w)) else Other

-- what stands after a `-`
abbrev pub negative_of : List ℕ → Word
negative_of w = if numeral w then Negative (held (value_after 0 w)) else Other

-- digits, or a `-` and digits
abbrev pub number_of : List ℕ → Word
number_of [] = Other
number_of (b ∷ bs) = if b == 45 then negative_of bs else natural_of (b ∷ bs)

abbrev pub name_or : Option Name → Word → Word
name_or (Some n) w = Known n
name_or None w = w

-- what one word is
abbrev pub word_of : List ℕ → Word
word_of w = name_or (name_of w) (number_of w)

-- the words among bytes, with blanks between them
unfoldable pub words_among : List ℕ → List Word
words_among bytes = map word_of (filter filled (slice_split blank bytes))

-- the words of a line, which stand before its comment
abbrev pub words_of : List ℕ → List Word
words_of line = words_among (before_first hash line)
