-- The clauses of a row. Assumes nothing.
use Rattle.std.proofs.Common.{◌≡◌, ℕ, zero, suc, ◌+◌, ◌*◌, ◌<◌, ◌≤◌, false, not, cond, leb, eqb, Decides, List, [], ◌∷◌, ◌++◌, length, get_or, take, drop, ◌⊎◌, ⊎_elim, Option, Some, None, Bor, slice_get, vec_items, sym, refl, ap, ◌∙◌, subst, add-one, arith, sum_by, length-drop, length-append, take-append-drop}
use Rattle.std.proofs.lemmas.Bool.{cases_lt, eq-eqb, eqb-true, le-leb, lt-leb, leb-true, cond_both, and_parts, and_from, not-true, not_from_false}
use Rattle.std.proofs.lemmas.List.{take_at, drop_at, drop_more, drop-drop, length-take-le}
use Rattle.std.proofs.lemmas.List.Recursion.{is_sum_by}
use Rattle.std.specs.List.{IsFirstAndRest, IsSplitAt}
use Rattle.std.proofs.lemmas.List.Elements.{All-nil, All-head, All-tail, All-cons}
use Rattle.std.specs.Option.{option_copied, MatchOption}
use Rattle.std.specs.Iterator.{YieldsFirstRef}
use Rattle.std.proofs.lemmas.Iterator.{YieldsList}
use Rattle.std.proofs.lemmas.Iterator.Consumers.{YieldsList-from_first}
use Rattle.theory.specs.Literals.{names, apart, Proper}
use Rattle.rules.specs.Clauses.{size, row_of}
use Rattle.clauses.specs.declared.row.Clauses.{Clauses}
use Rattle.clauses.specs.declared.book.Book.{Book}
use Rattle.clauses.specs.Learning.{book_of}
use Rattle.clauses.specs.Rows.{first_clauses, clauses_in, starts_from, Formed}

-- more clauses than a row has numbers make no difference
enough : (n m : ℕ) (row : List ℕ) → length row ≤ n → length row ≤ m → first_clauses n row ≡ first_clauses m row
unfolding first_clauses
enough zero zero row h k = refl
enough zero (suc m) [] h k = refl
enough zero (suc m) (count ∷ rest) h k = absurd (omega arith)
enough (suc n) zero [] h k = refl
enough (suc n) zero (count ∷ rest) h k = absurd (omega arith)
enough (suc n) (suc m) [] h k = refl
enough (suc n) (suc m) (count ∷ rest) h k =
    let shorter = length-drop count rest in
    ap (λ cs. cond (leb count (length rest)) (take count rest ∷ cs) []) (enough n m (drop count rest) (omega (arith, shorter)) (omega (arith, shorter)))

pub clauses_none : (row : List ℕ) → length row ≡ 0 → clauses_in row ≡ []
unfolding clauses_in first_clauses
clauses_none [] e = refl
clauses_none (count ∷ rest) e = absurd (omega arith)

pub clauses_first : (row : List ℕ) (count n : ℕ) (rest clause after : List ℕ) → IsFirstAndRest row count rest → n ≡ count → IsSplitAt rest n clause after
    → clauses_in row ≡ clause ∷ clauses_in after
unfolding clauses_in first_clauses
clauses_first row count n rest clause after f e s =
    ap clauses_in (f.0 ∙ ap (λ (k : ℕ). k ∷ rest) (sym e))
    ∙ ap (λ b. cond b (take n rest ∷ first_clauses (length rest) (drop n rest)) []) (le-leb n (length rest) s.0)
    ∙ ap (λ xs. take n rest ∷ first_clauses (length rest) xs) (sym s.2)
    ∙ ap (λ cs. take n rest ∷ cs) (enough (length rest) (length after) after (omega (arith, s.4)) (omega arith))
    ∙ ap (λ c. c ∷ clauses_in after) (sym s.1)

pub clauses_stop : (row : List ℕ) (count : ℕ) (rest : List ℕ) → IsFirstAndRest row count rest → length rest < count → clauses_in row ≡ []
unfolding clauses_in first_clauses
clauses_stop row count rest f h =
    ap clauses_in f.0 ∙ ap (λ b. cond b (take count rest ∷ first_clauses (length rest) (drop count rest)) []) (lt-leb count (length rest) h)

-- the row of a book has the book's clauses
clauses_row : (book : List (List ℕ)) → clauses_in (row_of book) ≡ book
clauses_row [] = clauses_none [] refl
clauses_row (c ∷ cs) =
    clauses_first (length c ∷ c ++ row_of cs) (length c) (length c) (c ++ row_of cs) c (row_of cs) (refl, add-one (length (c ++ row_of cs))) refl
    (omega (arith, long), sym (take_at c (row_of cs) (length c) refl), sym (drop_at c (row_of cs) (length c) refl), refl, omega (arith, long))
    ∙ ap (λ ds. c ∷ ds) (clauses_row cs)
  where
    long : length (c ++ row_of cs) ≡ length c + length (row_of cs)
    long = length-append c (row_of cs)

-- counts and literals together are no more than a row has, and where they are as many, the row is that of its clauses
record Within (row : List ℕ) (clauses : List (List ℕ)) : Type 0 where
  few : length clauses + size clauses ≤ length row
  whole : length clauses + size clauses ≡ length row → row_of clauses ≡ row

none_within : (row : List ℕ) → Within row []
none_within [] = record { few = omega arith; whole = λ e. refl }
none_within (x ∷ row) = record { few = omega arith; whole = λ e. absurd (omega arith) }

one_more : (count : ℕ) (rest : List ℕ) (cs : List (List ℕ)) → count ≤ length rest → Within (drop count rest) cs → Within (count ∷ rest) (take count rest ∷ cs)
one_more count rest cs h w = record {
  few = omega (arith, w.few, long, length-drop count rest);
  whole = λ e. ap (λ (k : ℕ). k ∷ (take count rest ++ row_of cs)) long
      ∙ ap (λ xs. count ∷ (take count rest ++ xs)) (w.whole (omega (arith, e, long, length-drop count rest)))
      ∙ ap (λ xs. count ∷ xs) (take-append-drop count rest);
}
  where
    long : length (take count rest) ≡ count
    long = length-take-le count rest h

first_within : (n : ℕ) (row : List ℕ) → Within row (first_clauses n row)
unfolding first_clauses
first_within zero row = none_within row
first_within (suc n) [] = none_within []
first_within (suc n) (count ∷ rest) =
    cond_both (leb count (length rest)) (take count rest ∷ first_clauses n (drop count rest)) [] (Within (count ∷ rest))
    (λ e. one_more count rest _ (leb-true count (length rest) e) (first_within n (drop count rest)))
    (λ e. none_within (count ∷ rest))

within : (row : List ℕ) → Within row (clauses_in row)
unfolding clauses_in
within row = first_within (length row) row

pub clauses_few : (row : List ℕ) → length (clauses_in row) + size (clauses_in row) ≤ length row
clauses_few row = (within row).few

pub size_is : (book : List (List ℕ)) → sum_by length book ≡ size book
size_is book = sym (is_sum_by size length refl (λ c cs. refl) book)

row_long : (book : List (List ℕ)) → length (row_of book) ≡ length book + size book
row_long [] = refl
row_long (c ∷ cs) = omega (arith, length-append c (row_of cs), row_long cs)

-- going through a row gives its clauses
pub clauses_chain : (s : Clauses) → YieldsList (YieldsFirstRef (λ s. clauses_in s.0.now)) (λ x. x.now) s (clauses_in s.0.now)
clauses_chain s = YieldsList-from_first (λ x. x.now) (λ s. clauses_in s.0.now) (clauses_in s.0.now) refl

-- ---- a row that is that of a book within the limits

-- where there are few of both, the row is that of its clauses if they take all its numbers
pub formed : (row : List ℕ) (k l : ℕ) → k ≡ length (clauses_in row) → l ≡ size (clauses_in row) → k ≤ 512 → l ≤ 4096 → Decides (eqb (k + l) (length row)) (Formed row (clauses_in row))
formed row k l e f c d = (
  (λ x. let y = eqb-true (k + l) (length row) x in
      record { of_book = (within row).whole (omega arith); few_clauses = omega (arith, e, c); few_literals = omega (arith, f, d) }),
  (λ x. let y = row_long (clauses_in row) in let z = ap length x.of_book in eq-eqb (k + l) (length row) (omega arith)),
)

pub too_many : (row : List ℕ) (k l : ℕ) → k ≡ length (clauses_in row) → l ≡ size (clauses_in row) → (512 < k) ⊎ ((k ≤ 512) × (4096 < l)) → Formed row (clauses_in row) → ⊥
too_many row k l e f past x = ⊎_elim (λ (p : 512 < k). omega (arith, x.few_clauses)) (λ (p : (k ≤ 512) × (4096 < l)). omega (arith, x.few_literals)) past

-- no other book has that row
pub formed_only : (row : List ℕ) (book : List (List ℕ)) → Formed row book → clauses_in row ≡ book
formed_only row book f = ap clauses_in (sym f.of_book) ∙ clauses_row book

-- ---- where the counts stand

pub starts_long : (at : ℕ) (cs : List (List ℕ)) → length (starts_from at cs) ≡ length cs
starts_long at [] = refl
starts_long at (c ∷ cs) = ap suc (starts_long (at + (length c + 1)) cs)

-- a place in a row from which some clauses come
pub record From (row : List ℕ) (at : ℕ) (cs : List (List ℕ)) : Type 0 where
  pub within : at ≤ length row
  pub is : clauses_in (drop at row) ≡ cs

after_first : (row : List ℕ) (c : List ℕ) (cs : List (List ℕ)) → clauses_in row ≡ c ∷ cs → From row (length c + 1) cs
after_first [] c cs e = let n = clauses_none [] refl in cc
after_first (count ∷ rest) c cs e =
    ⊎_elim (λ (h : length rest < count). let n = clauses_stop (count ∷ rest) count rest (refl, add-one (length rest)) h in cc) fits (cases_lt (length rest) count)
  where
    fits : count ≤ length rest → From (count ∷ rest) (length c + 1) cs
    fits h =
        let long : length (take count rest) ≡ count = length-take-le count rest h in
        let first = clauses_first (count ∷ rest) count count rest (take count rest) (drop count rest) (refl, add-one (length rest)) refl (h, refl, refl, long, omega (arith, length-drop count rest)) in
        let here : take count rest ≡ c = cc in
        let later : clauses_in (drop count rest) ≡ cs = cc in
        let size : length c ≡ count = ap length (sym here) ∙ long in
        let next : length c + 1 ≡ suc count = omega arith in
        record { within = omega arith; is = ap (λ (k : ℕ). clauses_in (drop k (count ∷ rest))) next ∙ later }

next_from : (row : List ℕ) (at : ℕ) (c : List ℕ) (cs : List (List ℕ)) → From row at (c ∷ cs) → From row (at + (length c + 1)) cs
next_from row at c cs f =
    let n = after_first (drop at row) c cs f.is in
    record { within = omega (arith, f.within, n.within, length-drop at row); is = ap clauses_in (sym (drop-drop (length c + 1) at row)) ∙ n.is }

each_from : (row : List ℕ) (at : ℕ) (cs : List (List ℕ)) → From row at cs → (i : ℕ) → i < length cs → From row (get_or (starts_from at cs) i 0) (drop i cs)
each_from row at [] f i h = absurd (omega arith)
each_from row at (c ∷ cs) f zero h = f
each_from row at (c ∷ cs) f (suc i) h = each_from row (at + (length c + 1)) cs (next_from row at c cs f) i (omega arith)

-- the clauses of a book from a number on come from that clause's place
pub clause_from : (b : Book) (starts : List ℕ) (i at : ℕ) → starts ≡ vec_items b.starts → (i < length starts) × ((d : ℕ) → at ≡ get_or starts i d) → From (vec_items b.row) at (drop i (book_of b))
clause_from b starts i at e look =
    let is : starts ≡ starts_from 0 (book_of b) = e ∙ b.begin in
    let long = ap length is ∙ starts_long 0 (book_of b) in
    subst (λ (k : ℕ). From (vec_items b.row) k (drop i (book_of b))) (sym (look.1 0 ∙ ap (λ ss. get_or ss i 0) is))
    (each_from (vec_items b.row) 0 (book_of b) (record { within = omega arith; is = refl }) i (omega (arith, look.0, long)))

pub get_drop : {A : Type 0} (xs : List A) (i : ℕ) → slice_get (drop i xs) 0 ≡ slice_get xs i
get_drop [] zero = refl
get_drop [] (suc i) = refl
get_drop (x ∷ xs) zero = refl
get_drop (x ∷ xs) (suc i) = get_drop xs i

-- the first clause that a row gives
pub first_given : (xs ys : List ℕ) (r : Option (Bor (List ℕ))) → MatchOption r ((clauses_in xs ≡ []) × (clauses_in ys ≡ [])) (λ x. clauses_in xs ≡ x.now ∷ clauses_in ys)
    → option_copied r ≡ slice_get (clauses_in xs) 0
first_given xs ys None h = ap (λ cs. slice_get cs 0) (sym h.0)
first_given xs ys (Some x) h = ap (λ cs. slice_get cs 0) (sym h)

-- ---- a clause, literal by literal

-- the first literal of a clause, and the others
pub record Goes (n x : ℕ) (xs : List ℕ) : Type 0 where
  pub low : x < 2 * n
  pub new : names xs x ≡ false
  pub rest : Proper n xs

pub proper_goes : (n : ℕ) (xs : List ℕ) (i : ℕ) → i < length xs → Proper n (drop i xs) → Goes n (get_or xs i 0) (drop (i + 1) xs)
proper_goes n xs i h p = go (subst (Proper n) (drop_more xs i 0 h) p)
  where
    go : {x : ℕ} {ys : List ℕ} → Proper n (x ∷ ys) → Goes n x ys
    go {x} {ys} q =
        let b = and_parts (not (names ys x)) (apart ys) q.apart_claims in
        record {
          low = All-head (λ l. l < 2 * n) x ys q.below;
          new = not-true (names ys x) b.0;
          rest = record { below = All-tail (λ l. l < 2 * n) x ys q.below; apart_claims = b.1 };
        }

pub proper_from : (n : ℕ) (xs : List ℕ) (i : ℕ) → i < length xs → Goes n (get_or xs i 0) (drop (i + 1) xs) → Proper n (drop i xs)
proper_from n xs i h g = subst (Proper n) (sym (drop_more xs i 0 h)) (record {
  below = All-cons (λ l. l < 2 * n) (get_or xs i 0) (drop (i + 1) xs) g.low g.rest.below;
  apart_claims = and_from _ _ (not_from_false _ g.new) g.rest.apart_claims;
})

pub proper_none : (n : ℕ) → Proper n []
proper_none n = record { below = All-nil (λ l. l < 2 * n); apart_claims = refl }
