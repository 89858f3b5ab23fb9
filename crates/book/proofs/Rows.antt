-- Rows of clauses: for each a count and then its literals. Assumes nothing.
use Rattle.std.proofs.Common.{◌≡◌, ℕ, ◌≤◌, List, [], ◌∷◌, ◌++◌, length, take, drop, refl, ap, sym, ◌∙◌, append_assoc, arith, length-append, take-append-drop, append-nil}
use Rattle.std.proofs.lemmas.List.{drop_at}
use Rattle.std.specs.List.{IsFirstAndRest, IsSplitAt}
use Rattle.rules.specs.Clauses.{row_of}

row_append : (cs ds : List (List ℕ)) → row_of (cs ++ ds) ≡ row_of cs ++ row_of ds
row_append [] ds = refl
row_append (c ∷ cs) ds = ap (λ t. length c ∷ (c ++ t)) (row_append cs ds) ∙ ap (λ t. length c ∷ t) (sym (append_assoc c (row_of cs) (row_of ds)))

-- one clause more of a row
pub row_more : (cs more : List (List ℕ)) (row rest numbers clause after : List ℕ) (count n : ℕ) → row_of cs ++ rest ≡ row → IsFirstAndRest rest count numbers → n ≡ count → IsSplitAt numbers n clause after → more ≡ cs ++ clause ∷ [] → row_of more ++ after ≡ row
row_more cs more row rest numbers clause after count n e first same cut next =
    let one : row_of (clause ∷ []) ≡ count ∷ clause = ap (λ (n : ℕ). n ∷ (clause ++ [])) (cut.3 ∙ same) ∙ ap (λ t. count ∷ t) (append-nil clause) in
    let parts : clause ++ after ≡ numbers = ap (λ t. t ++ after) cut.1 ∙ ap (λ t. take n numbers ++ t) cut.2 ∙ take-append-drop n numbers in
    let whole : row_of (clause ∷ []) ++ after ≡ rest = ap (λ t. t ++ after) one ∙ ap (λ t. count ∷ t) parts ∙ sym first.0 in
    ap (λ ds. row_of ds ++ after) next
    ∙ ap (λ t. t ++ after) (row_append cs (clause ∷ []))
    ∙ append_assoc (row_of cs) (row_of (clause ∷ [])) after
    ∙ ap (λ t. row_of cs ++ t) whole
    ∙ e

-- what clauses leave of their row after the first
pub row_cut : (cs : List (List ℕ)) (count : ℕ) (numbers : List ℕ) → row_of cs ≡ count ∷ numbers → (count ≤ length numbers) × ((more : List (List ℕ)) × (row_of more ≡ drop count numbers))
row_cut [] count numbers e = absurd (let z : ◌≡◌ {A = ℕ} 0 1 = cc in omega arith)
row_cut (c ∷ cs) count numbers e =
    let n : length c ≡ count = cc in
    let t : c ++ row_of cs ≡ numbers = cc in
    (omega (arith, ap length t, length-append c (row_of cs)), (cs, sym (drop_at c (row_of cs) count n) ∙ ap (drop count) t))
