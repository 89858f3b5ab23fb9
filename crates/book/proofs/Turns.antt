-- One line of a book more. Assumes nothing.
use Rattle.std.proofs.Common.{◌≡◌, ℕ, ◌+◌, ◌<◌, List, [], ◌∷◌, length, get_or, IsErrAnd, Ok, Err, Result, sym, refl, ap, ◌∙◌, arith}
use Rattle.book.specs.declared.fault.Fault.{Fault}
use Rattle.book.specs.declared.fault.Unread.{Unread}
use Rattle.book.specs.declared.fault.Unread.TheVariants.{Fault as Faulty, NoMemory}
use Rattle.book.specs.declared.reading.Purpose.{Purpose}
use Rattle.book.specs.declared.reading.Stage.{Stage}
use Rattle.book.specs.declared.reading.Stage.TheVariants.{Start, Terms, Claims, Clauses, Rows, Allowance, Calls, Steps}
use Rattle.book.specs.Words.{words_among, words_of}
use Rattle.book.specs.Lines.{Saying, nothing, and_then, said_by}
use Rattle.book.specs.Books.{Contents, adds, stage_after, theory_at, at_line, turn, ended, reads, Tells}

-- ---- replies

-- an error that a `?` passes on as it is, where the reply tells another meaning
pub tells_on : {A B C D : Type 0} (r : Result A Unread) (f : A → B) (m : Result B Fault) (e : Unread) (g : C → D) (k : Result D Fault) → IsErrAnd r (λ y. y ≡ e) → Tells {A = C} (Err e) g k → ((x : Fault) → k ≡ Err x → m ≡ Err x) → Tells r f m
tells_on (Ok x) f m e g k h t on = absurd h
tells_on (Err NoMemory) f m e g k h t on = tt
tells_on (Err (Faulty d)) f m (Faulty x) g k h t on = let s : d ≡ x = cc in on x t ∙ ap Err (sym s)
tells_on (Err (Faulty d)) f m NoMemory g k h t on = absurd (let z : ◌≡◌ {A = ℕ} 0 1 = cc in omega arith)

-- ---- one line

-- a line without bytes, or that begins with its comment, has no words
pub bare : (line : List ℕ) → (0 < length line → get_or line 0 0 ≡ 35) → words_of line ≡ []
unfolding words_among
bare [] h = refl
bare (b ∷ bs) h = ap (λ b. words_of (b ∷ bs)) (h (omega arith))

module _ (p : Purpose) where
  pub turn_done : (n : ℕ) (s : Stage) (b : Contents) (line : List ℕ) (said : Saying) (next : Stage) → said_by (theory_at s b) (words_of line) ≡ Ok said → stage_after p s said ≡ Ok next → turn p n s b line ≡ Ok (next, adds n b said)
  unfolding turn
  turn_done n s b line said next e g =
      ap (λ r. at_line n (and_then r (λ said. and_then (stage_after p s said) (λ next. Ok (next, adds n b said))))) e ∙ ap (λ r. at_line n (and_then r (λ next. Ok (next, adds n b said)))) g

  -- a line without words says nothing
  pub turn_wordless : (n : ℕ) (s : Stage) (b : Contents) (line : List ℕ) → words_of line ≡ [] → turn p n s b line ≡ Ok (s, b)
  turn_wordless n s b line e = turn_done n s b line nothing s (ap (said_by (theory_at s b)) e) refl

  -- ---- all lines

  pub reads_nil : (n : ℕ) (s : Stage) (b : Contents) → reads p n s b [] ≡ ended n s b
  unfolding reads
  reads_nil n s b = refl

  reads_cons : (n : ℕ) (s : Stage) (b : Contents) (l : List ℕ) (ls : List (List ℕ)) → reads p n s b (l ∷ ls) ≡ and_then (turn p (n + 1) s b l) (λ t. reads p (n + 1) t.0 t.1 ls)
  unfolding reads
  reads_cons n s b l ls = refl

  pub reads_more : (n : ℕ) (s : Stage) (b : Contents) (l : List ℕ) (ls : List (List ℕ)) (t : Stage) (c : Contents) → turn p (n + 1) s b l ≡ Ok (t, c) → reads p n s b (l ∷ ls) ≡ reads p (n + 1) t c ls
  reads_more n s b l ls t c e = reads_cons n s b l ls ∙ ap (λ v. and_then v (λ t. reads p (n + 1) t.0 t.1 ls)) e

  pub reads_stop : (n : ℕ) (s : Stage) (b : Contents) (l : List ℕ) (ls : List (List ℕ)) (e : Fault) → turn p (n + 1) s b l ≡ Err e → reads p n s b (l ∷ ls) ≡ Err e
  reads_stop n s b l ls e h = reads_cons n s b l ls ∙ ap (λ v. and_then v (λ t. reads p (n + 1) t.0 t.1 ls)) h

  -- what is left means the same after a line as before it, where the line is read as the i-th after n others
  module _ (n i : ℕ) (s : Stage) (b : Contents) (l : List ℕ) (ls rest : List (List ℕ)) (m : Result Contents Fault) (first : ls ≡ l ∷ rest) (here : i ≡ n) (all : reads p n s b ls ≡ m) where
    pub line_read : (k : ℕ) (t : Stage) (c : Contents) → k ≡ n + 1 → turn p (i + 1) s b l ≡ Ok (t, c) → reads p k t c rest ≡ m
    line_read k t c g h = let z = reads_more n s b l rest t c (ap (λ j. turn p (j + 1) s b l) (sym here) ∙ h) in cc

    pub line_fails : (e : Fault) → turn p (i + 1) s b l ≡ Err e → m ≡ Err e
    line_fails e h = let z = reads_stop n s b l rest e (ap (λ j. turn p (j + 1) s b l) (sym here) ∙ h) in cc

pub ended_whole : (n : ℕ) (s : Stage) (b : Contents) → (s ≡ Start → ⊥) → ended n s b ≡ Ok b
ended_whole n Start b h = absurd (h refl)
ended_whole n Terms b h = refl
ended_whole n Claims b h = refl
ended_whole n Clauses b h = refl
ended_whole n Rows b h = refl
ended_whole n Allowance b h = refl
ended_whole n Calls b h = refl
ended_whole n Steps b h = refl
