-- The canonical text of a book means that book. Assumes nothing.
use Rattle.std.proofs.Common.{◌≡◌, ℕ, ◌+◌, ◌<◌, ◌^◌, Bool, true, false, ◌==◌, if◌then◌else◌, List, [], ◌∷◌, ◌++◌, map, length, None, Some, Err, Ok, Result, sym, refl, ap, ◌∙◌, append_assoc, append-nil, add-zero, arith}
use native.Mathlib.Nat.{min-eq_left}
use Rattle.std.specs.List.{AllByRecursion}
use Rattle.std.proofs.ByRecursion.{All-append}
use Rattle.std.proofs.lemmas.List.Elements.{recursion_from_All}
use Rattle.theory.specs.declared.term.Term.{Term as TermRecord}
use Rattle.congruence.specs.declared.claim.Claim.{Claim as ClaimRecord}
use Rattle.difference.specs.declared.bound.Bound.{Bound as BoundRecord}
use Rattle.rules.specs.Clauses.{row_of}
use Rattle.book.specs.declared.contents.Call.{Call as Calling}
use Rattle.book.specs.declared.proposed.Proposed.{Proposed}
use Rattle.book.specs.declared.fault.Wrong.{Wrong}
use Rattle.book.specs.declared.fault.Wrong.TheVariants.{NoTheory}
use Rattle.book.specs.declared.reading.Purpose.{Purpose}
use Rattle.book.specs.declared.reading.Purpose.TheVariants.{Ask, Replay}
use Rattle.book.specs.declared.reading.Stage.{Stage}
use Rattle.book.specs.declared.reading.Stage.TheVariants.{Start, Terms, Claims, Clauses, Rows, Allowance, Calls, Steps}
use Rattle.book.specs.Words.{words_of}
use Rattle.book.specs.Lines.{Saying, theory, term, claim, bound, clause, row, allowance, call, step, said_by}
use Rattle.book.specs.Books.{ClaimList, equals, bounds, no_claims, theory_of, Contents, none, counted, adds, rank, begun, stage_after, theory_at, ended, reads}
use Rattle.book.specs.Canonical.{spaced, theory_line, term_line, claim_line, bound_line, claim_lines, call_line, clause_line, row_line, RowText, by_clauses, by_rows, row_lines, allowance_line, step_line, Task, to_ask, to_replay, purpose_of, task_lines, book_lines, TermFits, ClaimFits, BoundFits, ClaimsFit, CallFits, StepFits, NumbersFit, ClauseFits, RowFits, TaskFits, numbered, claim_count, joined, having, ReadsBack}
use Rattle.book.proofs.Spaced.{Plain, lines_text}
use Rattle.book.proofs.Turns.{turn_done, reads_nil, reads_more}
use Rattle.book.proofs.Sayings.{theory_plain, theory_said, term_plain, term_said, claim_plain, claim_said, bound_plain, bound_said, clause_plain, clause_said, row_plain, row_said, allowance_plain, allowance_said, call_plain, call_said, step_plain, step_said}

-- ---- Lines of one kind

-- the stage after lines that lead to `next`
abbrev passed : {X : Type 0} → Stage → Stage → List X → Stage
passed next s [] = s
passed next s (k ∷ ks) = passed next next ks

passed_by : {X : Type 0} (P : Stage → Type 0) (next s : Stage) (ks : List X) → P s → P next → P (passed next s ks)
passed_by P next s [] g h = g
passed_by P next s (k ∷ ks) g h = passed_by P next next ks h h

-- by how one is written, what its line says, the stage that it leads to, what a book has with some of them, and what
-- one of them and all
-- of them add after so many lines
module _ (p : Purpose) {X Y : Type 0} (line : X → List (List ℕ)) (Fits : X → Type 0) (said : X → Saying) (next : Stage) (put : List Y → Contents) (one : ℕ → X → List Y) (all : ℕ → List X → List Y) (says : (s : Stage) (done : List Y) (k : X) → stage_after p s (said k) ≡ Ok next → Fits k → said_by (theory_at s (put done)) (words_of (spaced (line k))) ≡ Ok (said k)) (stays : (k : X) → stage_after p next (said k) ≡ Ok next) (adding : (n : ℕ) (done : List Y) (k : X) → Fits k → adds n (put done) (said k) ≡ put (done ++ one n k)) (all_none : (n : ℕ) → all n [] ≡ []) (all_more : (n : ℕ) (k : X) (ks : List X) → all n (k ∷ ks) ≡ one (n + 1) k ++ all (n + 1) ks) where
  reads_each : (ks : List X) (n : ℕ) (s : Stage) (done : List Y) (rest : List (List (List ℕ))) → ((k : X) → stage_after p s (said k) ≡ Ok next) → AllByRecursion Fits ks → reads p n s (put done) (map spaced (map line ks ++ rest)) ≡ reads p (n + length ks) (passed next s ks) (put (done ++ all n ks)) (map spaced rest)
  reads_each [] n s done rest g h =
      ap (λ k. reads p k s (put done) (map spaced rest)) (sym (add-zero n)) ∙ ap (λ v. reads p (n + 0) s (put v) (map spaced rest)) (sym (append-nil done) ∙ ap (λ v. done ++ v) (sym (all_none n)))
  reads_each (k ∷ ks) n s done rest g h =
      let more = done ++ one (n + 1) k in
      let count : (n + 1) + length ks ≡ n + length (k ∷ ks) = omega arith in
      reads_more p n s (put done) (spaced (line k)) (map spaced (map line ks ++ rest)) next (put more)
      (turn_done p (n + 1) s (put done) (spaced (line k)) (said k) next (says s done k (g k) h.0) (g k) ∙ ap (λ b. Ok (next, b)) (adding (n + 1) done k h.0))
      ∙ reads_each ks (n + 1) next more rest stays h.1
      ∙ ap (λ m. reads p m (passed next next ks) (put (more ++ all (n + 1) ks)) (map spaced rest)) count
      ∙ ap (λ v. reads p (n + length (k ∷ ks)) (passed next next ks) (put v) (map spaced rest)) (append_assoc done (one (n + 1) k) (all (n + 1) ks) ∙ ap (λ v. done ++ v) (sym (all_more n k ks)))

  -- at the end of a text
  reads_last : (ks : List X) (n : ℕ) (s : Stage) → ((k : X) → stage_after p s (said k) ≡ Ok next) → ((m : ℕ) (b : Contents) → ended m s b ≡ Ok b) → ((m : ℕ) (b : Contents) → ended m next b ≡ Ok b) → AllByRecursion Fits ks → reads p n s (put []) (map spaced (map line ks)) ≡ Ok (put (all n ks))
  reads_last ks n s g here there h =
      ap (λ l. reads p n s (put []) (map spaced l)) (sym (append-nil (map line ks)))
      ∙ reads_each ks n s [] [] g h
      ∙ reads_nil p (n + length ks) (passed next s ks) (put (all n ks))
      ∙ passed_by (λ t. ended (n + length ks) t (put (all n ks)) ≡ Ok (put (all n ks))) next s ks (here _ _) (there _ _)

-- ---- Terms and claims

reads_terms : (p : Purpose) (ts : List TermRecord) (n : ℕ) (cs : ClaimList) (rest : List (List (List ℕ))) → AllByRecursion TermFits ts → reads p n Terms (record none { claims = cs }) (map spaced (map term_line ts ++ rest)) ≡ reads p (n + length ts) Terms (record none { terms = ts; claims = cs }) (map spaced rest)
reads_terms p ts n cs rest h =
    let put : List TermRecord → Contents = λ ts. record none { terms = ts; claims = cs } in
    reads_each p term_line TermFits term Terms put (λ _ t. t ∷ []) (λ _ ts. ts) (λ _ _ t _ h. term_said _ t h) (λ _. refl) (λ _ _ _ _. refl) (λ _. refl) (λ _ _ _. refl) ts n Terms [] rest (λ _. refl) h
    ∙ passed_by (λ s. reads p (n + length ts) s (put ts) (map spaced rest) ≡ reads p (n + length ts) Terms (put ts) (map spaced rest)) Terms Terms ts refl refl

-- the theory is known where a line stands that comes after it
theory_known : (s : Stage) (b : Contents) (r : Result Stage Wrong) (next : Stage) → begun s r ≡ Ok next → theory_at s b ≡ Some (theory_of b.claims)
theory_known s b r next g = go (rank s == 0) g
  where
    go : (t : Bool) → (if t then Err NoTheory else r) ≡ Ok next → (if t then None else Some (theory_of b.claims)) ≡ Some (theory_of b.claims)
    go true h = cc
    go false h = refl

-- the stage after the claims
abbrev claimed : ClaimList → Stage
claimed (equals cs) = passed Claims Terms cs
claimed (bounds bs) = passed Claims Terms bs

claimed_by : (P : Stage → Type 0) (cs : ClaimList) → P Terms → P Claims → P (claimed cs)
claimed_by P (equals cs) g h = passed_by P Claims Terms cs g h
claimed_by P (bounds bs) g h = passed_by P Claims Terms bs g h

reads_claims : (p : Purpose) (cs : ClaimList) (n : ℕ) (ts : List TermRecord) (rest : List (List (List ℕ))) → ClaimsFit cs → reads p n Terms (record none { terms = ts; claims = no_claims (theory_of cs) }) (map spaced (claim_lines cs ++ rest)) ≡ reads p (n + claim_count cs) (claimed cs) (record none { terms = ts; claims = cs }) (map spaced rest)
reads_claims p (equals cs) n ts rest h =
    let put : List ClaimRecord → Contents = λ cs. record none { terms = ts; claims = equals cs } in
    reads_each p claim_line ClaimFits claim Claims put (λ _ k. k ∷ []) (λ _ cs. cs) (λ s done k g h. ap (λ o. said_by o (words_of (spaced (claim_line k)))) (theory_known s (put done) _ _ g) ∙ claim_said k h) (λ _. refl) (λ _ _ _ _. refl) (λ _. refl) (λ _ _ _. refl) cs n Terms [] rest (λ _. refl) (recursion_from_All ClaimFits cs h)
reads_claims p (bounds bs) n ts rest h =
    let put : List BoundRecord → Contents = λ bs. record none { terms = ts; claims = bounds bs } in
    reads_each p bound_line BoundFits bound Claims put (λ _ k. k ∷ []) (λ _ bs. bs) (λ s done k g h. ap (λ o. said_by o (words_of (spaced (bound_line k)))) (theory_known s (put done) _ _ g) ∙ bound_said k h) (λ _. refl) (λ _ _ _ _. refl) (λ _. refl) (λ _ _ _. refl) bs n Terms [] rest (λ _. refl) (recursion_from_All BoundFits bs h)

-- ---- What stands after the claims

module _ (ts : List TermRecord) (cs : ClaimList) where
  reads_calls : (ks : List Calling) (n : ℕ) → AllByRecursion CallFits ks → reads Ask n (claimed cs) (record none { terms = ts; claims = cs }) (map spaced (map call_line ks)) ≡ Ok (having (n + 1) ts cs (to_ask ks))
  reads_calls ks n h =
      reads_last Ask call_line CallFits call Calls (λ ks. record none { terms = ts; claims = cs; calls = ks }) (λ n k. record { line = n; call = k } ∷ []) (λ n ks. numbered (n + 1) ks) (λ _ _ k _ h. call_said _ k h) (λ _. refl) (λ _ _ _ _. refl) (λ _. refl) (λ _ _ _. refl) ks n (claimed cs)
      (λ k. claimed_by (λ s. stage_after Ask s (call k) ≡ Ok Calls) cs refl refl) (λ m b. claimed_by (λ s. ended m s b ≡ Ok b) cs refl refl) (λ _ _. refl) h

  abbrev with_row : List ℕ → Contents
  with_row ns = record none { terms = ts; claims = cs; row = ns }

  -- the allowance and the steps
  reads_steps : (ns : List ℕ) (a : ℕ) (ks : List Proposed) (n : ℕ) (s : Stage) → stage_after Replay s (allowance a) ≡ Ok Allowance → a < 2 ^ 32 → AllByRecursion StepFits ks → reads Replay n s (with_row ns) (map spaced (allowance_line a ∷ map step_line ks)) ≡ Ok (record none { terms = ts; claims = cs; row = ns; allowance = a; steps = ks })
  reads_steps ns a ks n s g ha hk =
      let put : List Proposed → Contents = λ ks. record none { terms = ts; claims = cs; row = ns; allowance = a; steps = ks } in
      reads_more Replay n s (with_row ns) (spaced (allowance_line a)) (map spaced (map step_line ks)) Allowance (put [])
      (turn_done Replay (n + 1) s (with_row ns) (spaced (allowance_line a)) (allowance a) Allowance (allowance_said _ a ha) g)
      ∙ reads_last Replay step_line StepFits step Steps put (λ _ k. k ∷ []) (λ _ ks. ks) (λ _ _ k _ h. step_said _ k h) (λ _. refl) (λ _ _ _ _. refl) (λ _. refl) (λ _ _ _. refl) ks (n + 1) Allowance (λ _. refl) (λ _ _. refl) (λ _ _. refl) hk

  count_whole : (c : List ℕ) → ClauseFits c → counted c ≡ length c ∷ c
  count_whole c h = ap (λ n. n ∷ c) (min-eq_left (omega (arith, h.0)))

  reads_history : (r : RowText) (a : ℕ) (ks : List Proposed) (n : ℕ) → TaskFits (to_replay r a ks) → reads Replay n (claimed cs) (with_row []) (map spaced (task_lines (to_replay r a ks))) ≡ Ok (having (n + 1) ts cs (to_replay r a ks))
  reads_history (by_clauses rows) a ks n h =
      reads_each Replay clause_line ClauseFits clause Clauses with_row (λ _ c. length c ∷ c) (λ _ cs. row_of cs) (λ _ _ c _ h. clause_said _ c h) (λ _. refl) (λ _ done c h. ap (λ v. with_row (done ++ v)) (count_whole c h)) (λ _. refl) (λ _ _ _. refl) rows n (claimed cs) [] (allowance_line a ∷ map step_line ks)
      (λ c. claimed_by (λ s. stage_after Replay s (clause c) ≡ Ok Clauses) cs refl refl) (recursion_from_All ClauseFits rows h.0)
      ∙ reads_steps (row_of rows) a ks (n + length rows) (passed Clauses (claimed cs) rows) (passed_by (λ s. stage_after Replay s (allowance a) ≡ Ok Allowance) Clauses (claimed cs) rows (claimed_by (λ s. stage_after Replay s (allowance a) ≡ Ok Allowance) cs refl refl) refl) h.1 (recursion_from_All StepFits ks h.2)
  reads_history (by_rows rows) a ks n h =
      reads_each Replay row_line NumbersFit row Rows with_row (λ _ r. r) (λ _ rs. joined rs) (λ _ _ r _ h. row_said _ r h) (λ _. refl) (λ _ _ _ _. refl) (λ _. refl) (λ _ _ _. refl) rows n (claimed cs) [] (allowance_line a ∷ map step_line ks)
      (λ r. claimed_by (λ s. stage_after Replay s (row r) ≡ Ok Rows) cs refl refl) (recursion_from_All NumbersFit rows h.0)
      ∙ reads_steps (joined rows) a ks (n + length rows) (passed Rows (claimed cs) rows) (passed_by (λ s. stage_after Replay s (allowance a) ≡ Ok Allowance) Rows (claimed cs) rows (claimed_by (λ s. stage_after Replay s (allowance a) ≡ Ok Allowance) cs refl refl) refl) h.1 (recursion_from_All StepFits ks h.2)

  reads_task : (k : Task) (n : ℕ) → TaskFits k → reads (purpose_of k) n (claimed cs) (record none { terms = ts; claims = cs }) (map spaced (task_lines k)) ≡ Ok (having (n + 1) ts cs k)
  reads_task (to_ask ks) n h = reads_calls ks n (recursion_from_All CallFits ks h)
  reads_task (to_replay r a ks) n h = reads_history r a ks n h

-- ---- The whole

abbrev PlainLines : List (List (List ℕ)) → Type 0
PlainLines ls = AllByRecursion (AllByRecursion Plain) ls

plain_each : {X : Type 0} (line : X → List (List ℕ)) (Fits : X → Type 0) → ((x : X) → Fits x → AllByRecursion Plain (line x)) → (xs : List X) → AllByRecursion Fits xs → PlainLines (map line xs)
plain_each line Fits f [] h = tt
plain_each line Fits f (x ∷ xs) h = (f x h.0, plain_each line Fits f xs h.1)

claims_plain : (cs : ClaimList) → ClaimsFit cs → PlainLines (claim_lines cs)
claims_plain (equals cs) h = plain_each claim_line ClaimFits claim_plain cs (recursion_from_All ClaimFits cs h)
claims_plain (bounds bs) h = plain_each bound_line BoundFits bound_plain bs (recursion_from_All BoundFits bs h)

rows_plain : (r : RowText) → RowFits r → PlainLines (row_lines r)
rows_plain (by_clauses cs) h = plain_each clause_line ClauseFits clause_plain cs (recursion_from_All ClauseFits cs h)
rows_plain (by_rows rs) h = plain_each row_line NumbersFit row_plain rs (recursion_from_All NumbersFit rs h)

task_plain : (k : Task) → TaskFits k → PlainLines (task_lines k)
task_plain (to_ask ks) h = plain_each call_line CallFits call_plain ks (recursion_from_All CallFits ks h)
task_plain (to_replay r a ks) h =
    All-append (AllByRecursion Plain) (row_lines r) (allowance_line a ∷ map step_line ks) (rows_plain r h.0) (allowance_plain a h.1, plain_each step_line StepFits step_plain ks (recursion_from_All StepFits ks h.2))

pub reads_back : ReadsBack
reads_back ts cs k all_terms hc hk =
    let p = purpose_of k in
    let ht = recursion_from_All TermFits ts all_terms in
    let o = theory_of cs in
    let claims_on = claim_lines cs ++ task_lines k in
    let plain : PlainLines (book_lines ts cs k) =
    (theory_plain o, All-append (AllByRecursion Plain) (map term_line ts) claims_on (plain_each term_line TermFits term_plain ts ht) (All-append (AllByRecursion Plain) (claim_lines cs) (task_lines k) (claims_plain cs hc) (task_plain k hk)))
    in
    let count : ((1 + length ts) + claim_count cs) + 1 ≡ 2 + (length ts + claim_count cs) = omega arith in
    ap (reads p 0 Start none) (lines_text (book_lines ts cs k) plain)
    ∙ reads_more p 0 Start none (spaced (theory_line o)) (map spaced (map term_line ts ++ claims_on)) Terms (record none { claims = no_claims o }) (turn_done p 1 Start none (spaced (theory_line o)) (theory o) Terms (theory_said (theory_at Start none) o) refl)
    ∙ reads_terms p ts 1 (no_claims o) claims_on ht
    ∙ reads_claims p cs (1 + length ts) ts (task_lines k) hc
    ∙ reads_task ts cs k ((1 + length ts) + claim_count cs) hk
    ∙ ap (λ n. Ok (having n ts cs k)) count
