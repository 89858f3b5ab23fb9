-- The canonical text of a book: a line for each item, with single blanks. Assumes nothing.
use Rattle.std.specs.Prelude.{◌≡◌, ℕ, ◌+◌, ◌^◌, ◌<◌, ◌≤◌, List, [], ◌∷◌, ◌++◌, map, length, take, pos, negsuc, ◌≤ℤ◌, Some, None, Ok, codes, decimal, Option}
use Rattle.std.specs.Fmt.{signed_decimal}
use Rattle.std.specs.List.{All}
use Rattle.theory.specs.declared.term.Term.{Term}
use Rattle.congruence.specs.declared.claim.Claim.{Claim}
use Rattle.difference.specs.declared.bound.Bound.{Bound}
use Rattle.rules.specs.Clauses.{row_of}
use Rattle.book.specs.declared.contents.Asked.{Asked}
use Rattle.book.specs.declared.contents.Call.{Call}
use Rattle.book.specs.declared.contents.Call.TheVariants.{Assert, TakeBack, Query, Write, Trial, Close}
use Rattle.book.specs.declared.proposed.Proposed.{Proposed}
use Rattle.book.specs.declared.proposed.Proposed.TheVariants.{Decide, Propagate, Imply, Conflict, Clash, Resolve, Jump, Forget, Fit, NoFit}
use Rattle.book.specs.declared.reading.Purpose.{Purpose}
use Rattle.book.specs.declared.reading.Purpose.TheVariants.{Ask, Replay}
use Rattle.book.specs.declared.word.Name.TheVariants.{Sort as sort}
use Rattle.book.specs.declared.word.Sort.{Sort}
use Rattle.book.specs.Words.{spelling}
use Rattle.book.specs.Lines.{first_two}
use Rattle.book.specs.Books.{ClaimList, equals, bounds, theory_of, Contents, none, meant}

-- ---- Text

-- words with a blank between each two
abbrev pub spaced : List (List ℕ) → List ℕ
spaced [] = []
spaced (w ∷ []) = w
spaced (w ∷ v ∷ ws) = w ++ 32 ∷ spaced (v ∷ ws)

-- lines, each with a line feed at its end
abbrev pub text_of : List (List (List ℕ)) → List ℕ
text_of [] = []
text_of (l ∷ ls) = spaced l ++ 10 ∷ text_of ls

-- ---- Lines, as words

abbrev pub theory_line : Sort → List (List ℕ)
theory_line o = codes "theory" ∷ spelling (sort o) ∷ []

abbrev pub term_line : Term → List (List ℕ)
term_line t = codes "term" ∷ decimal t.symbol ∷ map decimal (take t.arity t.args)

abbrev pub claim_line : Claim → List (List ℕ)
claim_line k = codes "claim" ∷ decimal k.left ∷ decimal k.right ∷ []

abbrev pub bound_line : Bound → List (List ℕ)
bound_line k = codes "claim" ∷ decimal k.term ∷ decimal k.base ∷ signed_decimal k.most ∷ []

-- the lines of the claims of either theory
abbrev pub claim_lines : ClaimList → List (List (List ℕ))
claim_lines (equals cs) = map claim_line cs
claim_lines (bounds bs) = map bound_line bs

abbrev pub length_word : Option ℕ → List (List ℕ)
length_word None = []
length_word (Some n) = decimal n ∷ []

abbrev pub call_line : Call → List (List ℕ)
call_line (Assert l) = codes "call" ∷ codes "assert" ∷ decimal l ∷ []
call_line (TakeBack k) = codes "call" ∷ codes "takeback" ∷ decimal k ∷ []
call_line (Query len) = codes "call" ∷ codes "query" ∷ length_word len
call_line (Write len) = codes "call" ∷ codes "write" ∷ length_word len
call_line (Trial l) = codes "call" ∷ codes "trial" ∷ decimal l ∷ []
call_line Close = codes "call" ∷ codes "close" ∷ []

abbrev pub clause_line : List ℕ → List (List ℕ)
clause_line ls = codes "clause" ∷ map decimal ls

abbrev pub row_line : List ℕ → List (List ℕ)
row_line ns = codes "row" ∷ map decimal ns

-- a row of clauses, by clause lines or by row lines
pub data RowText : Type 0 where
  by_clauses : List (List ℕ) → RowText
  by_rows : List (List ℕ) → RowText

abbrev pub row_lines : RowText → List (List (List ℕ))
row_lines (by_clauses cs) = map clause_line cs
row_lines (by_rows rs) = map row_line rs

abbrev pub allowance_line : ℕ → List (List ℕ)
allowance_line n = codes "allowance" ∷ decimal n ∷ []

-- a step, without the word `step`
abbrev pub step_words : Proposed → List (List ℕ)
step_words (Decide l) = codes "decide" ∷ decimal l ∷ []
step_words (Propagate c l) = codes "propagate" ∷ decimal c ∷ decimal l ∷ []
step_words (Imply l) = codes "imply" ∷ decimal l ∷ []
step_words (Conflict c) = codes "conflict" ∷ decimal c ∷ []
step_words Clash = codes "clash" ∷ []
step_words Resolve = codes "resolve" ∷ []
step_words (Jump k c) = codes "jump" ∷ decimal k ∷ decimal c ∷ []
step_words (Forget c) = codes "forget" ∷ decimal c ∷ []
step_words (Fit len) = codes "fit" ∷ length_word len
step_words NoFit = codes "nofit" ∷ []

abbrev pub step_line : Proposed → List (List ℕ)
step_line k = codes "step" ∷ step_words k

-- what stands after the claims: calls, or a history's row, allowance and steps
pub data Task : Type 0 where
  to_ask : List Call → Task
  to_replay : RowText → ℕ → List Proposed → Task

abbrev pub purpose_of : Task → Purpose
purpose_of (to_ask ks) = Ask
purpose_of (to_replay r n ks) = Replay

abbrev pub task_lines : Task → List (List (List ℕ))
task_lines (to_ask ks) = map call_line ks
task_lines (to_replay r n ks) = row_lines r ++ (allowance_line n ∷ map step_line ks)

abbrev pub book_lines : List Term → ClaimList → Task → List (List (List ℕ))
book_lines ts cs k = theory_line (theory_of cs) ∷ (map term_line ts ++ (claim_lines cs ++ task_lines k))

-- ---- What can be written: numbers that fit their fields, and at most two arguments, with 0 past them

abbrev pub TermFits : Term → Type 0
TermFits t = (t.symbol < 65536) × (t.arity ≤ 2) × (t.args ≡ first_two (take t.arity t.args)) × All (λ n. n < 65536) (take t.arity t.args)

abbrev pub ClaimFits : Claim → Type 0
ClaimFits k = (k.left < 65536) × (k.right < 65536)

-- the constant from -2,147,483,648 to 2,147,483,647
abbrev pub BoundFits : Bound → Type 0
BoundFits k = (k.term < 65536) × (k.base < 65536) × (negsuc 2147483647 ≤ℤ k.most) × (k.most ≤ℤ pos 2147483647)

-- all claims of either theory fit
abbrev pub ClaimsFit : ClaimList → Type 0
ClaimsFit (equals cs) = All ClaimFits cs
ClaimsFit (bounds bs) = All BoundFits bs

abbrev pub LengthFits : Option ℕ → Type 0
LengthFits None = Unit {0}
LengthFits (Some n) = n < 65536

abbrev pub CallFits : Call → Type 0
CallFits (Assert l) = l < 65536
CallFits (TakeBack k) = k < 2 ^ 64
CallFits (Query len) = LengthFits len
CallFits (Write len) = LengthFits len
CallFits (Trial l) = l < 65536
CallFits Close = Unit {0}

abbrev pub StepFits : Proposed → Type 0
StepFits (Decide l) = l < 65536
StepFits (Propagate c l) = (c < 65536) × (l < 65536)
StepFits (Imply l) = l < 65536
StepFits (Conflict c) = c < 65536
StepFits Clash = Unit {0}
StepFits Resolve = Unit {0}
StepFits (Jump k c) = (k < 2 ^ 32) × (c < 65536)
StepFits (Forget c) = c < 65536
StepFits (Fit len) = LengthFits len
StepFits NoFit = Unit {0}

abbrev pub NumbersFit : List ℕ → Type 0
NumbersFit ns = All (λ n. n < 65536) ns

-- a count of 16 bits can tell how many literals a clause has
abbrev pub ClauseFits : List ℕ → Type 0
ClauseFits ls = (length ls < 65536) × NumbersFit ls

abbrev pub RowFits : RowText → Type 0
RowFits (by_clauses cs) = All ClauseFits cs
RowFits (by_rows rs) = All NumbersFit rs

abbrev pub TaskFits : Task → Type 0
TaskFits (to_ask ks) = All CallFits ks
TaskFits (to_replay r n ks) = RowFits r × (n < 2 ^ 32) × All StepFits ks

-- ---- The theorem

-- calls, each with its line, from line n on
abbrev pub numbered : ℕ → List Call → List Asked
numbered n [] = []
numbered n (k ∷ ks) = record { line = n; call = k } ∷ numbered (n + 1) ks

-- how many claims there are
abbrev pub claim_count : ClaimList → ℕ
claim_count (equals cs) = length cs
claim_count (bounds bs) = length bs

-- rows that are put down one after another
abbrev pub joined : List (List ℕ) → List ℕ
joined [] = []
joined (r ∷ rs) = r ++ joined rs

abbrev pub row_given : RowText → List ℕ
row_given (by_clauses cs) = row_of cs
row_given (by_rows rs) = joined rs

-- what a book has, with its calls from line n on
abbrev pub having : ℕ → List Term → ClaimList → Task → Contents
having n ts cs (to_ask ks) = record none { terms = ts; claims = cs; calls = numbered n ks }
having n ts cs (to_replay r allowance ks) = record none { terms = ts; claims = cs; row = row_given r; allowance = allowance; steps = ks }

-- the canonical text of a book of either theory means that book
abbrev pub ReadsBack : Type 0
ReadsBack = (ts : List Term) (cs : ClaimList) (k : Task) → All TermFits ts → ClaimsFit cs → TaskFits k → meant (purpose_of k) (text_of (book_lines ts cs k)) ≡ Ok (having (2 + (length ts + claim_count cs)) ts cs k)
