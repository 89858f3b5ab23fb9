-- The text of a history: a book, with steps of its own. Assumes nothing.
use Rattle.std.specs.Prelude.{◌≡◌, ◌≢◌, ℕ, ◌≤◌, List, [], ◌∷◌, ◌++◌, map, length, take, Ok, String, string_bytes}
use Rattle.theory.specs.declared.term.Term.{Term}
use Rattle.rules.specs.declared.step.Step.{Step}
use Rattle.rules.specs.Clauses.{row_of}
use Rattle.book.specs.declared.proposed.Proposed.{Proposed}
use Rattle.book.specs.declared.reading.Purpose.TheVariants.{Replay}
use Rattle.book.specs.Lines.{first_two}
use Rattle.book.specs.Books.{Contents, step_over, proposed_of, meant}
use Rattle.book.specs.Canonical.{RowText, by_clauses, by_rows, text_of, to_replay, book_lines}

-- a text has lines more at its end
abbrev pub Gains : {A : Type 0} → String A → String A → List (List (List ℕ)) → Type 0
Gains old new ls = string_bytes new ≡ string_bytes old ++ text_of ls

-- a row of numbers is written by clause lines if it is a whole number of clauses, and else by one row line
abbrev pub WrittenBy : List ℕ → RowText → Type 0
WrittenBy row (by_clauses cs) = row_of cs ≡ row
WrittenBy row (by_rows rs) = (rs ≡ row ∷ []) × ((cs : List (List ℕ)) → row_of cs ≢ row)

-- a text is the canonical one of a book's terms, claims, clauses and allowance, with these steps
abbrev pub IsLog : Contents → List Step → List ℕ → Type 0
IsLog b steps text = (r : RowText) × WrittenBy b.row r × (text ≡ text_of (book_lines b.terms b.claims (to_replay r b.allowance (map (proposed_of (length b.terms)) steps))))

-- read to be replayed, a text means a book's terms, claims, clauses and allowance, and proposes just these steps
abbrev pub Replays : Contents → List Step → List ℕ → Type 0
Replays b steps text = (ks : List Proposed) × (meant Replay text ≡ Ok (record b { calls = []; steps = ks })) × (map (step_over (length b.terms)) ks ≡ steps)

-- a term with at most two arguments, and 0 past them
abbrev pub IsShort : Term → Type 0
IsShort t = (t.arity ≤ 2) × (t.args ≡ first_two (take t.arity t.args))
