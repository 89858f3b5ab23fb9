-- What the text of a history means. Assumes nothing.
use Rattle.std.proofs.Common.{Bool, true, false, if◌then◌else◌, min, None, Some, ◌≡◌, ℕ, ◌<◌, ◌≢◌, ◌^◌, ◌==◌, List, [], ◌∷◌, ◌++◌, map, length, Ok, refl, sym, ap, ◌∙◌, arith, append-nil}
use Rattle.std.proofs.lemmas.Bool.{eqb-true, eqb-false}
use native.Mathlib.Nat.{min-eq_left}
use Rattle.std.proofs.lemmas.List.{take_at, drop_at}
use Rattle.std.proofs.lemmas.List.Elements.{All-nil, All-head, All-tail, All-cons, All-same, All-take, All-drop}
use Rattle.std.specs.List.{All}
use Rattle.theory.specs.declared.term.Term.{Term}
use Rattle.rules.specs.Clauses.{row_of}
use Rattle.rules.specs.declared.step.Step.{Step}
use Rattle.rules.specs.declared.step.Step.TheVariants.{Decide, Propagate, Imply, Conflict, Clash, Resolve, Jump, Forget, Fit, NoFit}
use Rattle.book.specs.declared.proposed.Proposed.{Proposed}
use Rattle.book.specs.declared.reading.Purpose.TheVariants.{Replay}
use Rattle.book.specs.Books.{ClaimList, none, meant, place_len, place_named, step_over, proposed_of, Proposable}
use Rattle.book.specs.Canonical.{RowText, by_clauses, by_rows, row_given, to_replay, text_of, book_lines, TermFits, ClaimsFit, StepFits, NumbersFit, ClauseFits, RowFits}
use Rattle.book.specs.Writing.{WrittenBy}
use Rattle.book.proofs.Canonical.{reads_back}

-- a number of 16 bits
abbrev Short : ℕ → Type 0
Short n = n < 65536

clauses_fit : (cs : List (List ℕ)) → NumbersFit (row_of cs) → All ClauseFits cs
clauses_fit [] h = All-nil ClauseFits
clauses_fit (c ∷ cs) h =
    let rest = c ++ row_of cs in
    let fit : All Short rest = All-tail Short (length c) rest h in
    All-cons ClauseFits c cs (All-head Short (length c) rest h, All-same Short _ _ (sym (take_at c (row_of cs) (length c) refl)) (All-take Short (length c) rest fit))
    (clauses_fit cs (All-same Short _ _ (sym (drop_at c (row_of cs) (length c) refl)) (All-drop Short (length c) rest fit)))

row_fits : (row : List ℕ) (r : RowText) → WrittenBy row r → NumbersFit row → RowFits r
row_fits row (by_clauses cs) w h = clauses_fit cs (All-same Short _ _ w h)
row_fits row (by_rows rs) w h = All-same NumbersFit _ _ w.0 (All-cons NumbersFit row [] h (All-nil NumbersFit))

row_kept : (row : List ℕ) (r : RowText) → WrittenBy row r → row_given r ≡ row
row_kept row (by_clauses cs) w = w
row_kept row (by_rows rs) w = ap (λ rs. row_given (by_rows rs)) w.0 ∙ append-nil row

-- the text of a history means it
pub log_means : (ts : List Term) (cs : ClaimList) (row : List ℕ) (r : RowText) (a : ℕ) (ks : List Proposed) (text : List ℕ) → All TermFits ts → ClaimsFit cs → NumbersFit row → a < 2 ^ 32 → All StepFits ks
    → WrittenBy row r → text ≡ text_of (book_lines ts cs (to_replay r a ks)) → meant Replay text ≡ Ok (record none { terms = ts; claims = cs; row = row; allowance = a; steps = ks })
log_means ts cs row r a ks text ht hc hr ha hk w e =
    ap (meant Replay) e
    ∙ reads_back ts cs (to_replay r a ks) ht hc (row_fits row r w hr, ha, hk)
    ∙ ap (λ ns. Ok (record none { terms = ts; claims = cs; row = ns; allowance = a; steps = ks })) (row_kept row r w)

place_same : (terms len : ℕ) → (len ≢ terms → len < 65536) → place_len terms (place_named terms len) ≡ len
place_same terms len h = go (len == terms) refl
  where
    go : (t : Bool) → (len == terms) ≡ t → place_len terms (if t then None else Some (min len 65535)) ≡ len
    go true e = sym (eqb-true len terms e)
    go false e = min-eq_left (omega (arith, h (eqb-false len terms e)))

step_same : (terms : ℕ) (k : Step) → Proposable terms k → step_over terms (proposed_of terms k) ≡ k
step_same terms (Decide l) h = refl
step_same terms (Propagate c l) h = refl
step_same terms (Imply l) h = refl
step_same terms (Conflict c) h = refl
step_same terms Clash h = refl
step_same terms Resolve h = refl
step_same terms (Jump k c) h = refl
step_same terms (Forget c) h = refl
step_same terms (Fit len) h = ap Fit (place_same terms len h)
step_same terms NoFit h = refl

-- steps are proposed as they are
pub steps_same : (terms : ℕ) (ks : List Step) → All (Proposable terms) ks → map (step_over terms) (map (proposed_of terms) ks) ≡ ks
steps_same terms [] h = refl
steps_same terms (k ∷ ks) h =
    ap (λ j. j ∷ map (step_over terms) (map (proposed_of terms) ks)) (step_same terms k (All-head (Proposable terms) k ks h)) ∙ ap (λ js. k ∷ js) (steps_same terms ks (All-tail (Proposable terms) k ks h))
