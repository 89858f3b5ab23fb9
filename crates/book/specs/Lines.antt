-- What the words of a line say. Assumes nothing.
use Rattle.std.specs.Prelude.{◌≡◌, ℕ, min, if◌then◌else◌, List, [], ◌∷◌, length, ℤ, pos, neg_ℤ, Some, None, Ok, Err, vec_items, Option, Result, nat_le, slice_index}
use Rattle.theory.specs.declared.term.Term.{Term as TermRecord}
use Rattle.congruence.specs.declared.claim.Claim.{Claim as ClaimRecord}
use Rattle.difference.specs.declared.bound.Bound.{Bound as BoundRecord}
use Rattle.book.specs.declared.contents.Call.{Call as Calling}
use Rattle.book.specs.declared.contents.Call.TheVariants.{Assert as assert, TakeBack as take_back, Query as query, Write as write, Trial as trial, Close as close}
use Rattle.book.specs.declared.fault.Unread.{Unread}
use Rattle.book.specs.declared.fault.Unread.TheVariants as unread
use Rattle.book.specs.declared.fault.Wrong.{Wrong}
use Rattle.book.specs.declared.fault.Wrong.TheVariants.{NoSuchLine, NoSuchTheory, NoSuchCall, NoSuchStep, NoNumber, TooLarge, OutOfRange, Missing, TooMany, NoTheory}
use Rattle.book.specs.declared.line.Said.{Said}
use Rattle.book.specs.declared.line.Said.TheVariants as said
use Rattle.book.specs.declared.line.Unsaid.{Unsaid}
use Rattle.book.specs.declared.line.Unsaid.TheVariants.{Wrong as wrong, NoMemory}
use Rattle.book.specs.declared.proposed.Proposed.{Proposed}
use Rattle.book.specs.declared.proposed.Proposed.TheVariants.{Decide as decide, Propagate as propagate, Imply as imply, Conflict as conflict, Clash as clash, Resolve as resolve, Jump as jump, Forget as forget, Fit as fit, NoFit as nofit}
use Rattle.book.specs.declared.word.Name.{Name}
use Rattle.book.specs.declared.word.Name.TheVariants.{Kind as kind, Ask as ask, Rule as rule, Sort as sort}
use Rattle.book.specs.declared.word.Kind.{Kind}
use Rattle.book.specs.declared.word.Kind.TheVariants.{Theory, Term, Claim, Clause, Row, Allowance, Call, Step}
use Rattle.book.specs.declared.word.Ask.{Ask}
use Rattle.book.specs.declared.word.Ask.TheVariants.{Assert, TakeBack, Query, Write, Trial, Close}
use Rattle.book.specs.declared.word.Rule.{Rule}
use Rattle.book.specs.declared.word.Rule.TheVariants.{Decide, Propagate, Imply, Conflict, Clash, Resolve, Jump, Forget, Fit, NoFit}
use Rattle.book.specs.declared.word.Sort.{Sort}
use Rattle.book.specs.declared.word.Sort.TheVariants.{Equality, Distance}
use Rattle.book.specs.declared.word.Word.{Word}
use Rattle.book.specs.declared.word.Word.TheVariants.{Known, Number, Negative, Other}

-- what one line says
pub data Saying : Type 0 where
  nothing : Saying
  theory : Sort → Saying
  term : TermRecord → Saying
  claim : ClaimRecord → Saying
  bound : BoundRecord → Saying
  clause : List ℕ → Saying
  row : List ℕ → Saying
  allowance : ℕ → Saying
  call : Calling → Saying
  step : Proposed → Saying

-- what a value of the code says
abbrev pub saying_of : Said → Saying
saying_of said.Nothing = nothing
saying_of (said.Theory o) = theory o
saying_of (said.Term t) = term t
saying_of (said.Claim k) = claim k
saying_of (said.Bound k) = bound k
saying_of (said.Clause v) = clause (vec_items v)
saying_of (said.Row v) = row (vec_items v)
saying_of (said.Allowance n) = allowance n
saying_of (said.Call k) = call k
saying_of (said.Step k) = step k

-- goes on with a value, unless there is a fault
abbrev pub and_then : {A B E : Type 0} → Result A E → (A → Result B E) → Result B E
and_then (Ok x) f = f x
and_then (Err e) f = Err e

-- ---- Numbers

-- a number up to most
abbrev pub number_to : ℕ → Word → Result ℕ Wrong
number_to most (Number (Some n)) = if nat_le n most then Ok n else Err (TooLarge most)
number_to most (Number None) = Err (TooLarge most)
number_to most (Negative n) = Err NoNumber
number_to most (Known n) = Err NoNumber
number_to most Other = Err NoNumber

-- a number of 16 bits
abbrev pub short_of : Word → Result ℕ Wrong
short_of w = number_to 65535 w

-- a number of 32 bits
abbrev pub middle_of : Word → Result ℕ Wrong
middle_of w = number_to 4294967295 w

-- a number of 64 bits
abbrev pub long_of : Word → Result ℕ Wrong
long_of w = number_to 18446744073709551615 w

-- a signed number of 32 bits
abbrev pub signed_of : Word → Result ℤ Wrong
signed_of (Number (Some n)) = if nat_le n 2147483647 then Ok (pos n) else Err OutOfRange
signed_of (Number None) = Err OutOfRange
signed_of (Negative (Some n)) = if nat_le n 2147483648 then Ok (neg_ℤ (pos n)) else Err OutOfRange
signed_of (Negative None) = Err OutOfRange
signed_of (Known n) = Err NoNumber
signed_of Other = Err NoNumber

-- any number of 16-bit numbers
unfoldable pub shorts_of : List Word → Result (List ℕ) Wrong
shorts_of [] = Ok []
shorts_of (w ∷ ws) = and_then (short_of w) (λ n. and_then (shorts_of ws) (λ ns. Ok (n ∷ ns)))

-- the first two of some numbers, with 0 for one that is missing
abbrev pub first_two : List ℕ → List ℕ
first_two ns = slice_index ns 0 ∷ slice_index ns 1 ∷ []

-- ---- What stands after a name

-- nothing
abbrev pub none_of : Name → List Word → Result (Unit {0}) Wrong
none_of n [] = Ok tt
none_of n (w ∷ ws) = Err (TooMany n)

-- one word
abbrev pub only_of : Name → List Word → Result Word Wrong
only_of n [] = Err (Missing n)
only_of n (w ∷ []) = Ok w
only_of n (w ∷ v ∷ ws) = Err (TooMany n)

-- two words
abbrev pub two_of : Name → List Word → Result (Word × Word) Wrong
two_of n [] = Err (Missing n)
two_of n (w ∷ []) = Err (Missing n)
two_of n (w ∷ v ∷ []) = Ok (w, v)
two_of n (w ∷ v ∷ u ∷ ws) = Err (TooMany n)

-- the length of a place, which may be left out
abbrev pub place_of : Name → List Word → Result (Option ℕ) Wrong
place_of n [] = Ok None
place_of n (w ∷ []) = and_then (short_of w) (λ k. Ok (Some k))
place_of n (w ∷ v ∷ ws) = Err (TooMany n)

-- ---- The lines

-- `theory equality` or `theory distance`
abbrev pub theory_by : Word → Result Sort Wrong
theory_by (Known (sort o)) = Ok o
theory_by (Known (kind k)) = Err NoSuchTheory
theory_by (Known (ask a)) = Err NoSuchTheory
theory_by (Known (rule a)) = Err NoSuchTheory
theory_by (Number n) = Err NoSuchTheory
theory_by (Negative n) = Err NoSuchTheory
theory_by Other = Err NoSuchTheory

abbrev pub theory_line_of : List Word → Result Sort Wrong
theory_line_of ws = and_then (only_of (kind Theory) ws) theory_by

-- `term SYMBOL ARG ..`: the record keeps how many arguments there are, up to 255, and the first two
abbrev pub term_of : List Word → Result TermRecord Wrong
term_of [] = Err (Missing (kind Term))
term_of (s ∷ ws) = and_then (short_of s) (λ symbol. and_then (shorts_of ws) (λ ns. Ok (record { symbol = symbol; arity = min (length ws) 255; args = first_two ns })))

-- `claim A B`
abbrev pub equal_of : List Word → Result ClaimRecord Wrong
equal_of ws = and_then (two_of (kind Claim) ws) (λ p. and_then (short_of p.0) (λ left. and_then (short_of p.1) (λ right. Ok (record { left = left; right = right }))))

-- `claim A B C`
abbrev pub bound_of : List Word → Result BoundRecord Wrong
bound_of [] = Err (Missing (kind Claim))
bound_of (a ∷ []) = Err (Missing (kind Claim))
bound_of (a ∷ b ∷ []) = Err (Missing (kind Claim))
bound_of (a ∷ b ∷ c ∷ []) = and_then (short_of a) (λ term. and_then (short_of b) (λ base. and_then (signed_of c) (λ most. Ok (record { term = term; base = base; most = most }))))
bound_of (a ∷ b ∷ c ∷ w ∷ ws) = Err (TooMany (kind Claim))

-- a claim line goes by the book's theory, so it is at fault before the theory line
abbrev pub claim_of : Option Sort → List Word → Result Saying Wrong
claim_of None ws = Err NoTheory
claim_of (Some Equality) ws = and_then (equal_of ws) (λ k. Ok (claim k))
claim_of (Some Distance) ws = and_then (bound_of ws) (λ k. Ok (bound k))

-- `allowance N`
abbrev pub allowance_of : List Word → Result ℕ Wrong
allowance_of ws = and_then (only_of (kind Allowance) ws) middle_of

-- `assert L`, `takeback K`, `query [LEN]`, `write [LEN]`, `trial L`, `close`
abbrev pub called_by : Ask → List Word → Result Calling Wrong
called_by Assert ws = and_then (only_of (ask Assert) ws) (λ w. and_then (short_of w) (λ l. Ok (assert l)))
called_by TakeBack ws = and_then (only_of (ask TakeBack) ws) (λ w. and_then (long_of w) (λ k. Ok (take_back k)))
called_by Query ws = and_then (place_of (ask Query) ws) (λ len. Ok (query len))
called_by Write ws = and_then (place_of (ask Write) ws) (λ len. Ok (write len))
called_by Trial ws = and_then (only_of (ask Trial) ws) (λ w. and_then (short_of w) (λ l. Ok (trial l)))
called_by Close ws = and_then (none_of (ask Close) ws) (λ _. Ok close)

-- `call` and a call
abbrev pub call_of : List Word → Result Calling Wrong
call_of [] = Err (Missing (kind Call))
call_of (Known (ask a) ∷ ws) = called_by a ws
call_of (Known (kind k) ∷ ws) = Err NoSuchCall
call_of (Known (rule a) ∷ ws) = Err NoSuchCall
call_of (Known (sort o) ∷ ws) = Err NoSuchCall
call_of (Number n ∷ ws) = Err NoSuchCall
call_of (Negative n ∷ ws) = Err NoSuchCall
call_of (Other ∷ ws) = Err NoSuchCall

-- `propagate C L`
abbrev pub propagate_of : List Word → Result Proposed Wrong
propagate_of ws = and_then (two_of (rule Propagate) ws) (λ p. and_then (short_of p.0) (λ c. and_then (short_of p.1) (λ l. Ok (propagate c l))))

-- `jump K C`
abbrev pub jump_of : List Word → Result Proposed Wrong
jump_of ws = and_then (two_of (rule Jump) ws) (λ p. and_then (middle_of p.0) (λ k. and_then (short_of p.1) (λ c. Ok (jump k c))))

-- `decide L`, `propagate C L`, `imply L`, `conflict C`, `clash`, `resolve`, `jump K C`, `forget C`, `fit [LEN]`,
-- `nofit`
abbrev pub proposed_by : Rule → List Word → Result Proposed Wrong
proposed_by Decide ws = and_then (only_of (rule Decide) ws) (λ w. and_then (short_of w) (λ l. Ok (decide l)))
proposed_by Propagate ws = propagate_of ws
proposed_by Imply ws = and_then (only_of (rule Imply) ws) (λ w. and_then (short_of w) (λ l. Ok (imply l)))
proposed_by Conflict ws = and_then (only_of (rule Conflict) ws) (λ w. and_then (short_of w) (λ c. Ok (conflict c)))
proposed_by Clash ws = and_then (none_of (rule Clash) ws) (λ _. Ok clash)
proposed_by Resolve ws = and_then (none_of (rule Resolve) ws) (λ _. Ok resolve)
proposed_by Jump ws = jump_of ws
proposed_by Forget ws = and_then (only_of (rule Forget) ws) (λ w. and_then (short_of w) (λ c. Ok (forget c)))
proposed_by Fit ws = and_then (place_of (rule Fit) ws) (λ len. Ok (fit len))
proposed_by NoFit ws = and_then (none_of (rule NoFit) ws) (λ _. Ok nofit)

-- `step` and a step
abbrev pub step_of : List Word → Result Proposed Wrong
step_of [] = Err (Missing (kind Step))
step_of (Known (rule a) ∷ ws) = proposed_by a ws
step_of (Known (kind k) ∷ ws) = Err NoSuchStep
step_of (Known (ask a) ∷ ws) = Err NoSuchStep
step_of (Known (sort o) ∷ ws) = Err NoSuchStep
step_of (Number n ∷ ws) = Err NoSuchStep
step_of (Negative n ∷ ws) = Err NoSuchStep
step_of (Other ∷ ws) = Err NoSuchStep

-- `clause LIT ..` and `row N ..` have any number of numbers
abbrev pub line_by : Option Sort → Kind → List Word → Result Saying Wrong
line_by of Theory ws = and_then (theory_line_of ws) (λ o. Ok (theory o))
line_by of Term ws = and_then (term_of ws) (λ t. Ok (term t))
line_by of Claim ws = claim_of of ws
line_by of Clause ws = and_then (shorts_of ws) (λ ls. Ok (clause ls))
line_by of Row ws = and_then (shorts_of ws) (λ ns. Ok (row ns))
line_by of Allowance ws = and_then (allowance_of ws) (λ n. Ok (allowance n))
line_by of Call ws = and_then (call_of ws) (λ k. Ok (call k))
line_by of Step ws = and_then (step_of ws) (λ k. Ok (step k))

-- a line goes by its first word, in a book of a theory or before its theory line
abbrev pub said_by : Option Sort → List Word → Result Saying Wrong
said_by of [] = Ok nothing
said_by of (Known (kind k) ∷ ws) = line_by of k ws
said_by of (Known (ask a) ∷ ws) = Err NoSuchLine
said_by of (Known (rule a) ∷ ws) = Err NoSuchLine
said_by of (Known (sort o) ∷ ws) = Err NoSuchLine
said_by of (Number n ∷ ws) = Err NoSuchLine
said_by of (Negative n ∷ ws) = Err NoSuchLine
said_by of (Other ∷ ws) = Err NoSuchLine

-- ---- Replies

-- why line n says nothing, told of its book
abbrev pub unread_at : ℕ → Unsaid → Unread
unread_at n (wrong w) = unread.Fault (record { line = n; wrong = w })
unread_at n NoMemory = unread.NoMemory

-- a reply tells what a line says, unless memory was short
abbrev pub Says : {A B : Type 0} → Result A Unsaid → (A → B) → Result B Wrong → Type 0
Says (Ok x) f m = m ≡ Ok (f x)
Says (Err (wrong w)) f m = m ≡ Err w
Says (Err NoMemory) f m = Unit {0}
