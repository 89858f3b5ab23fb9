-- Texts that grow word by word and line by line. Assumes nothing.
use Rattle.std.proofs.Common.{◌≡◌, ℕ, List, [], ◌∷◌, ◌++◌, codes, map, length, refl, ap, sym, ◌∙◌, append_assoc, append-nil}
use Rattle.book.specs.declared.proposed.Proposed.{Proposed}
use Rattle.book.specs.declared.proposed.Proposed.TheVariants.{Decide, Propagate, Imply, Conflict, Clash, Resolve, Jump, Forget, Fit, NoFit}
use Rattle.theory.specs.declared.term.Term.{Term}
use Rattle.rules.specs.declared.step.Step.{Step}
use Rattle.book.specs.declared.word.Sort.{Sort}
use Rattle.book.specs.Books.{ClaimList, theory_of, proposed_of}
use Rattle.book.specs.Canonical.{spaced, text_of, theory_line, term_line, claim_lines, RowText, row_lines, allowance_line, step_words, step_line, to_replay, book_lines}

-- words with a blank before each
abbrev pub blanked : List (List ℕ) → List ℕ
blanked [] = []
blanked (w ∷ ws) = 32 ∷ (w ++ blanked ws)

pub spaced_blanked : (w : List ℕ) (ws : List (List ℕ)) → spaced (w ∷ ws) ≡ w ++ blanked ws
spaced_blanked w [] = sym (append-nil w)
spaced_blanked w (v ∷ ws) = ap (λ t. w ++ 32 ∷ t) (spaced_blanked v ws)

pub text_append : (ls ms : List (List (List ℕ))) → text_of (ls ++ ms) ≡ text_of ls ++ text_of ms
text_append [] ms = refl
text_append (l ∷ ls) ms = ap (λ t. spaced l ++ 10 ∷ t) (text_append ls ms) ∙ sym (append_assoc (spaced l) (10 ∷ text_of ls) (text_of ms))

-- a step's line is the word `step` and the step
pub step_spaced : (k : Proposed) → spaced (step_line k) ≡ codes "step " ++ spaced (step_words k)
step_spaced (Decide l) = refl
step_spaced (Propagate c l) = refl
step_spaced (Imply l) = refl
step_spaced (Conflict c) = refl
step_spaced Clash = refl
step_spaced Resolve = refl
step_spaced (Jump k c) = refl
step_spaced (Forget c) = refl
step_spaced (Fit len) = refl
step_spaced NoFit = refl

text_parts : (a b c d e f : List (List (List ℕ))) → text_of (a ++ (b ++ (c ++ (d ++ (e ++ f))))) ≡ ((((text_of a ++ text_of b) ++ text_of c) ++ text_of d) ++ text_of e) ++ text_of f
text_parts a b c d e f = simp (text_append, append_assoc)

-- a book's text, put down part by part
pub book_text : (o : Sort) (terms ts : List Term) (n : ℕ) (cs : ClaimList) (r : RowText) (a : ℕ) (steps : List Step) (none named termed claimed rowed allowed all : List ℕ)
    → o ≡ theory_of cs → terms ≡ ts → n ≡ length ts
    → none ≡ [] → named ≡ none ++ text_of (theory_line o ∷ []) → termed ≡ named ++ text_of (map term_line terms) → claimed ≡ termed ++ text_of (claim_lines cs)
    → rowed ≡ claimed ++ text_of (row_lines r) → allowed ≡ rowed ++ text_of (allowance_line a ∷ []) → all ≡ allowed ++ text_of (map step_line (map (proposed_of n) steps))
    → all ≡ text_of (book_lines ts cs (to_replay r a (map (proposed_of (length ts)) steps)))
book_text o terms ts n cs r a steps none named termed claimed rowed allowed all of same count e0 e1 e2 e3 e4 e5 e6 =
    let parts = text_parts (theory_line (theory_of cs) ∷ []) (map term_line ts) (claim_lines cs) (row_lines r) (allowance_line a ∷ []) (map step_line (map (proposed_of (length ts)) steps)) in
    let first : named ≡ text_of (theory_line (theory_of cs) ∷ []) = e1 ∙ ap (λ t. t ++ text_of (theory_line o ∷ [])) e0 ∙ ap (λ o. text_of (theory_line o ∷ [])) of in
    let second : termed ≡ named ++ text_of (map term_line ts) = e2 ∙ ap (λ ts. named ++ text_of (map term_line ts)) same in
    let last : all ≡ allowed ++ text_of (map step_line (map (proposed_of (length ts)) steps)) = e6 ∙ ap (λ n. allowed ++ text_of (map step_line (map (proposed_of n) steps))) count in
    cc parts
