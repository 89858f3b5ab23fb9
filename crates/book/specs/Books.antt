-- A book, made of the lines of a text in their order. Assumes nothing.
use Rattle.std.specs.Prelude.{◌≡◌, ◌≢◌, ℕ, ◌+◌, ◌<◌, min, max, nat_le, ◌==◌, if◌then◌else◌, List, [], ◌∷◌, ◌++◌, length, Some, None, Ok, Err, vec_items, Option, Result}
use Rattle.theory.specs.declared.term.Term.{Term as TermRecord}
use Rattle.congruence.specs.declared.claim.Claim.{Claim as ClaimRecord}
use Rattle.difference.specs.declared.bound.Bound.{Bound as BoundRecord}
use Rattle.rules.specs.declared.step.Step.{Step}
use Rattle.rules.specs.declared.step.Step.TheVariants as rules
use Rattle.book.specs.declared.contents.Asked.{Asked}
use Rattle.book.specs.declared.contents.Book.{Book}
use Rattle.book.specs.declared.contents.Claims.{Claims as ClaimsHeld}
use Rattle.book.specs.declared.contents.Claims.TheVariants.{Equality as equality, Distance as distance}
use Rattle.book.specs.declared.fault.Fault.{Fault}
use Rattle.book.specs.declared.fault.Unread.{Unread}
use Rattle.book.specs.declared.fault.Unread.TheVariants.{Fault as Faulty, NoMemory}
use Rattle.book.specs.declared.fault.Wrong.{Wrong}
use Rattle.book.specs.declared.fault.Wrong.TheVariants.{NoTheory, SecondTheory, LateTerm, LateClaim, LateClause, ClausesAndRows, LateAllowance, SecondAllowance, HistoryToAsk, CallsToReplay}
use Rattle.book.specs.declared.proposed.Proposed.{Proposed}
use Rattle.book.specs.declared.proposed.Proposed.TheVariants.{Decide, Propagate, Imply, Conflict, Clash, Resolve, Jump, Forget, Fit, NoFit}
use Rattle.book.specs.declared.reading.Purpose.{Purpose}
use Rattle.book.specs.declared.reading.Purpose.TheVariants.{Ask, Replay}
use Rattle.book.specs.declared.reading.Stage.{Stage}
use Rattle.book.specs.declared.reading.Stage.TheVariants.{Start, Terms, Claims, Clauses, Rows, Allowance, Calls, Steps}
use Rattle.book.specs.declared.word.Sort.{Sort}
use Rattle.book.specs.declared.word.Sort.TheVariants.{Equality, Distance}
use Rattle.book.specs.Pieces.{lines}
use Rattle.book.specs.Words.{words_of}
use Rattle.book.specs.Lines.{Saying, nothing, theory, term, claim, bound, clause, row, allowance, call, step, and_then, said_by}

-- ---- What a book has

-- the claims of a book, as its theory has them
pub data ClaimList : Type 0 where
  equals : List ClaimRecord → ClaimList
  bounds : List BoundRecord → ClaimList

-- the claims that a value of the code has
abbrev pub claims_of : ClaimsHeld → ClaimList
claims_of (equality v) = equals (vec_items v)
claims_of (distance v) = bounds (vec_items v)

-- no claims of a theory
abbrev pub no_claims : Sort → ClaimList
no_claims Equality = equals []
no_claims Distance = bounds []

-- the theory that claims are of
abbrev pub theory_of : ClaimList → Sort
theory_of (equals cs) = Equality
theory_of (bounds bs) = Distance

-- the terms and claims of a book, and then either its calls or what a history has: the clauses as one row of numbers,
-- the allowance and the steps; each in their order
pub record Contents : Type 0 where
  pub terms : List TermRecord
  pub claims : ClaimList
  pub calls : List Asked
  pub row : List ℕ
  pub allowance : ℕ
  pub steps : List Proposed

-- the contents that a value of the code has
abbrev pub contents_of : Book → Contents
contents_of b =
    record { terms = vec_items b.terms; claims = claims_of b.claims; calls = vec_items b.calls; row = vec_items b.row; allowance = b.allowance; steps = vec_items b.steps }

-- what a book has before its theory line; its allowance is the largest there is until it names one
abbrev pub none : Contents
none = record { terms = []; claims = no_claims Equality; calls = []; row = []; allowance = 4294967295; steps = [] }

-- how many numbers the place for a fit has, over a theory of so many terms
abbrev pub place_len : ℕ → Option ℕ → ℕ
place_len terms None = terms
place_len terms (Some len) = len

-- the step that is proposed
abbrev pub step_over : ℕ → Proposed → Step
step_over terms (Decide l) = rules.Decide l
step_over terms (Propagate c l) = rules.Propagate c l
step_over terms (Imply l) = rules.Imply l
step_over terms (Conflict c) = rules.Conflict c
step_over terms Clash = rules.Clash
step_over terms Resolve = rules.Resolve
step_over terms (Jump k c) = rules.Jump k c
step_over terms (Forget c) = rules.Forget c
step_over terms (Fit len) = rules.Fit (place_len terms len)
step_over terms NoFit = rules.NoFit

-- the length that a fit's place is told by: none where it is the number of terms, and else up to 65,535
abbrev pub place_named : ℕ → ℕ → Option ℕ
place_named terms len = if len == terms then None else Some (min len 65535)

-- a step, as a book proposes it
abbrev pub proposed_of : ℕ → Step → Proposed
proposed_of terms (rules.Decide l) = Decide l
proposed_of terms (rules.Propagate c l) = Propagate c l
proposed_of terms (rules.Imply l) = Imply l
proposed_of terms (rules.Conflict c) = Conflict c
proposed_of terms rules.Clash = Clash
proposed_of terms rules.Resolve = Resolve
proposed_of terms (rules.Jump k c) = Jump k c
proposed_of terms (rules.Forget c) = Forget c
proposed_of terms (rules.Fit len) = Fit (place_named terms len)
proposed_of terms rules.NoFit = NoFit

-- a book can propose the step: it is no fit into a place that has neither as many numbers as there are terms nor fewer
-- than 65,536
abbrev pub Proposable : ℕ → Step → Type 0
Proposable terms (rules.Fit len) = len ≢ terms → len < 65536
Proposable terms k = Unit {0}

-- ---- What a line adds

-- one claim more; a claim of the other theory, which no line of the book gives, is left out
abbrev pub adds_claim : ClaimList → ClaimRecord → ClaimList
adds_claim (equals cs) k = equals (cs ++ k ∷ [])
adds_claim (bounds bs) k = bounds bs

-- one bound more, likewise
abbrev pub adds_bound : ClaimList → BoundRecord → ClaimList
adds_bound (equals cs) k = equals cs
adds_bound (bounds bs) k = bounds (bs ++ k ∷ [])

-- a clause in a row: a count, which goes up to 65,535, and then the literals
abbrev pub counted : List ℕ → List ℕ
counted ls = min (length ls) 65535 ∷ ls

-- a line, by what it says
abbrev pub adds : ℕ → Contents → Saying → Contents
adds line b nothing = b
adds line b (theory o) = record b { claims = no_claims o }
adds line b (term t) = record b { terms = b.terms ++ t ∷ [] }
adds line b (claim k) = record b { claims = adds_claim b.claims k }
adds line b (bound k) = record b { claims = adds_bound b.claims k }
adds line b (clause ls) = record b { row = b.row ++ counted ls }
adds line b (row ns) = record b { row = b.row ++ ns }
adds line b (allowance n) = record b { allowance = n }
adds line b (call k) = record b { calls = b.calls ++ record { line = line; call = k } ∷ [] }
adds line b (step k) = record b { steps = b.steps ++ k ∷ [] }

-- ---- The order of lines: one that may stand takes the book to a stage

-- the rank of a stage, and of the lines that lead to it
abbrev pub rank : Stage → ℕ
rank Start = 0
rank Terms = 1
rank Claims = 2
rank Clauses = 3
rank Rows = 4
rank Allowance = 5
rank Calls = 6
rank Steps = 7

-- a line that leads to `next` and is late where a line of a higher rank than that of `last` stands before it
abbrev pub up_to : Stage → Stage → Wrong → Stage → Result Stage Wrong
up_to last next late s = if nat_le (rank s) (rank last) then Ok next else Err late

-- a line that may not stand at one stage
abbrev pub not_at : Stage → Wrong → Stage → Result Stage Wrong → Result Stage Wrong
not_at one wrong s r = if rank s == rank one then Err wrong else r

-- a line that stands somewhere after the theory line
abbrev pub begun : Stage → Result Stage Wrong → Result Stage Wrong
begun s r = not_at Start NoTheory s r

-- a line that a book to ask has
abbrev pub asked : Purpose → Result Stage Wrong → Result Stage Wrong
asked Ask r = r
asked Replay r = Err CallsToReplay

-- a line that a book to replay has
abbrev pub replayed : Purpose → Result Stage Wrong → Result Stage Wrong
replayed Ask r = Err HistoryToAsk
replayed Replay r = r

-- clause and row lines do not stand in one book, nor two allowances
abbrev pub clause_at : Stage → Result Stage Wrong
clause_at s = not_at Rows ClausesAndRows s (up_to Clauses Clauses LateClause s)

abbrev pub row_at : Stage → Result Stage Wrong
row_at s = not_at Clauses ClausesAndRows s (up_to Rows Rows LateClause s)

abbrev pub allowance_at : Stage → Result Stage Wrong
allowance_at s = not_at Allowance SecondAllowance s (up_to Rows Allowance LateAllowance s)

abbrev pub stage_after : Purpose → Stage → Saying → Result Stage Wrong
stage_after p s nothing = Ok s
stage_after p s (theory o) = up_to Start Terms SecondTheory s
stage_after p s (term t) = begun s (up_to Terms Terms LateTerm s)
stage_after p s (claim k) = begun s (up_to Claims Claims LateClaim s)
stage_after p s (bound k) = begun s (up_to Claims Claims LateClaim s)
stage_after p s (clause ls) = begun s (replayed p (clause_at s))
stage_after p s (row ns) = begun s (replayed p (row_at s))
stage_after p s (allowance n) = begun s (replayed p (allowance_at s))
stage_after p s (call k) = begun s (asked p (Ok Calls))
stage_after p s (step k) = begun s (replayed p (Ok Steps))

-- ---- Line by line

-- the theory of a book, after its theory line
abbrev pub theory_at : Stage → Contents → Option Sort
theory_at s b = if rank s == 0 then None else Some (theory_of b.claims)

abbrev pub at_line : {A : Type 0} → ℕ → Result A Wrong → Result A Fault
at_line n (Ok x) = Ok x
at_line n (Err w) = Err (record { line = n; wrong = w })

-- the stage and the contents after a line
unfoldable pub turn : Purpose → ℕ → Stage → Contents → List ℕ → Result (Stage × Contents) Fault
turn p n s b line = at_line n (and_then (said_by (theory_at s b) (words_of line)) (λ said. and_then (stage_after p s said) (λ next. Ok (next, adds n b said))))

-- a book without a theory line is at fault where it ends
abbrev pub ended : ℕ → Stage → Contents → Result Contents Fault
ended n s b = if rank s == 0 then Err (record { line = max n 1; wrong = NoTheory }) else Ok b

-- what lines give that stand after n others
unfoldable pub reads : Purpose → ℕ → Stage → Contents → List (List ℕ) → Result Contents Fault
reads p n s b [] = ended n s b
reads p n s b (l ∷ ls) = and_then (turn p (n + 1) s b l) (λ t. reads p (n + 1) t.0 t.1 ls)

-- what a text means: the contents of a book of a purpose, or its first fault
abbrev pub meant : Purpose → List ℕ → Result Contents Fault
meant p text = reads p 0 Start none (lines text)

-- a reply tells a meaning, unless memory was short
abbrev pub Tells : {A B : Type 0} → Result A Unread → (A → B) → Result B Fault → Type 0
Tells (Ok x) f m = m ≡ Ok (f x)
Tells (Err (Faulty e)) f m = m ≡ Err e
Tells (Err NoMemory) f m = Unit {0}
