-- What written names and numbers are as words. Assumes nothing.
use Rattle.std.proofs.Common.{◌≡◌, ℕ, ◌^◌, ◌<◌, ◌≤◌, Bool, true, false, cond, ◌&&◌, eqb, leb, ltb, List, [], ◌∷◌, map, length, get_or, Some, None, decimal, sym, refl, ap, ◌∙◌, ⊎_elim, arith, rules}
use Rattle.std.specs.Char.{is_ascii_digit}
use Rattle.std.specs.List.{AllByRecursion, list_all, filter}
use Rattle.std.specs.Str.{bytes_eq}
use Rattle.std.proofs.lemmas.Fmt.{decimal_nonempty, digits_decimal, digits_value-decimal}
use Rattle.std.proofs.lemmas.Str.Parse.{IsNumeralModel, numerals_by_fold}
use Rattle.std.proofs.lemmas.Slice.Eq.{bytes_eq-Decides}
use Rattle.std.proofs.lemmas.Bool.{cases_Bool, false_from_ne_true, eqb-false, cond-false, not_from_false, ne_eqb, and_from, and_parts, and_left, leb-true, ltb-true, lt-ltb}
use Rattle.book.specs.declared.word.Name.{Name}
use Rattle.book.specs.declared.word.Name.TheVariants.{Kind as kind, Ask as ask, Rule as rule, Sort as sort}
use Rattle.book.specs.declared.word.Kind.TheVariants.{Theory, Term, Claim, Clause, Row, Allowance, Call, Step}
use Rattle.book.specs.declared.word.Ask.TheVariants.{Assert, TakeBack, Query, Write, Trial, Close}
use Rattle.book.specs.declared.word.Rule.TheVariants.{Decide, Propagate, Imply, Conflict, Clash, Resolve, Jump, Forget, Fit, NoFit}
use Rattle.book.specs.declared.word.Sort.TheVariants.{Equality, Distance}
use Rattle.book.specs.declared.word.Word.{Word}
use Rattle.book.specs.declared.word.Word.TheVariants.{Known, Number, Negative, Other}
use Rattle.book.specs.Words.{spelling, first_spelled, name_of, digits, value_after, held, filled, numeral, natural_of, negative_of, number_of, name_or, word_of}
use Rattle.book.proofs.Spaced.{Plain, plain_by}

-- ---- names

pub name_word : (n : Name) → word_of (spelling n) ≡ Known n
unfolding first_spelled
name_word (kind Theory) = refl
name_word (kind Term) = refl
name_word (kind Claim) = refl
name_word (kind Clause) = refl
name_word (kind Row) = refl
name_word (kind Allowance) = refl
name_word (kind Call) = refl
name_word (kind Step) = refl
name_word (ask Assert) = refl
name_word (ask TakeBack) = refl
name_word (ask Query) = refl
name_word (ask Write) = refl
name_word (ask Trial) = refl
name_word (ask Close) = refl
name_word (rule Decide) = refl
name_word (rule Propagate) = refl
name_word (rule Imply) = refl
name_word (rule Conflict) = refl
name_word (rule Clash) = refl
name_word (rule Resolve) = refl
name_word (rule Jump) = refl
name_word (rule Forget) = refl
name_word (rule Fit) = refl
name_word (rule NoFit) = refl
name_word (sort Equality) = refl
name_word (sort Distance) = refl

-- a word of letters
abbrev lettered : List ℕ → Bool
lettered w = filled w && list_all (ltb 57) w

name_lettered : (n : Name) → lettered (spelling n) ≡ true
name_lettered (kind Theory) = refl
name_lettered (kind Term) = refl
name_lettered (kind Claim) = refl
name_lettered (kind Clause) = refl
name_lettered (kind Row) = refl
name_lettered (kind Allowance) = refl
name_lettered (kind Call) = refl
name_lettered (kind Step) = refl
name_lettered (ask Assert) = refl
name_lettered (ask TakeBack) = refl
name_lettered (ask Query) = refl
name_lettered (ask Write) = refl
name_lettered (ask Trial) = refl
name_lettered (ask Close) = refl
name_lettered (rule Decide) = refl
name_lettered (rule Propagate) = refl
name_lettered (rule Imply) = refl
name_lettered (rule Conflict) = refl
name_lettered (rule Clash) = refl
name_lettered (rule Resolve) = refl
name_lettered (rule Jump) = refl
name_lettered (rule Forget) = refl
name_lettered (rule Fit) = refl
name_lettered (rule NoFit) = refl
name_lettered (sort Equality) = refl
name_lettered (sort Distance) = refl

lettered_plain : (w : List ℕ) → lettered w ≡ true → Plain w
lettered_plain [] h = let z : false ≡ true = h in cc
lettered_plain (b ∷ bs) h = plain_by (ltb 57) (λ b h. omega (arith, ltb-true 57 b h)) (b ∷ bs) (omega arith) (and_parts (filled (b ∷ bs)) (list_all (ltb 57) (b ∷ bs)) h).1

pub name_plain : (n : Name) → Plain (spelling n)
name_plain n = lettered_plain (spelling n) (name_lettered n)

lettered_differs : (w : List ℕ) (b : ℕ) (bs : List ℕ) → lettered w ≡ true → b ≤ 57 → bytes_eq (b ∷ bs) w ≡ false
lettered_differs [] b bs h low = refl
lettered_differs (d ∷ ds) b bs h low =
    let letters = (and_parts (filled (d ∷ ds)) (list_all (ltb 57) (d ∷ ds)) h).1 in
    let high : 57 < d = ltb-true 57 d (and_parts (ltb 57 d) (list_all (ltb 57) ds) letters).0 in
    and_left (eqb b d) _ (ne_eqb b d (λ e. omega arith))

-- neither a digit nor a `-` begins a name
differs : (n : Name) (b : ℕ) (bs : List ℕ) → b ≤ 57 → bytes_eq (b ∷ bs) (spelling n) ≡ false
differs n b bs h = lettered_differs (spelling n) b bs (name_lettered n) h

none_spelled : (ns : List Name) (b : ℕ) (bs : List ℕ) → b ≤ 57 → first_spelled ns (b ∷ bs) ≡ None
unfolding first_spelled
none_spelled [] b bs h = refl
none_spelled (n ∷ ns) b bs h = ap (λ t. cond t (Some n) (first_spelled ns (b ∷ bs))) (differs n b bs h) ∙ none_spelled ns b bs h

-- the first of some names that a word spells is the first among those of its length
pub first_of_length : (ns : List Name) (w : List ℕ) → first_spelled (filter (λ n. eqb (length (spelling n)) (length w)) ns) w ≡ first_spelled ns w
unfolding first_spelled
first_of_length [] w = refl
first_of_length (n ∷ ns) w =
    let rest = filter (λ n. eqb (length (spelling n)) (length w)) ns in
    ⊎_elim
    (λ e. ap (λ t. first_spelled (cond t (n ∷ rest) rest) w) e ∙ ap (cond (bytes_eq w (spelling n)) (Some n)) (first_of_length ns w))
    (λ e. let other : bytes_eq w (spelling n) ≡ false = false_from_ne_true _ (λ t. eqb-false _ _ e (ap length (sym ((bytes_eq-Decides w (spelling n)).0 t)))) in
    ap (λ t. first_spelled (cond t (n ∷ rest) rest) w) e ∙ first_of_length ns w ∙ sym (ap (λ t. cond t (Some n) (first_spelled ns w)) other))
    (cases_Bool (eqb (length (spelling n)) (length w)))

-- ---- numbers

-- the word that a number without a sign is
abbrev pub natural : ℕ → Word
natural n = Number (Some n)

own : IsNumeralModel (λ ds. digits ds ≡ true) (value_after 0)
unfolding value_after
own = numerals_by_fold _ (search rules) value_after (search rules)

digit_within : (b : ℕ) → is_ascii_digit b ≡ true → (48 ≤ b) × (b ≤ 57)
digit_within b h = let q = and_parts (leb 48 b) (leb b 57) h in (leb-true 48 b q.0, leb-true b 57 q.1)

-- a word that begins with a digit or a sign is no name
pub no_letter : (w : List ℕ) → 1 ≤ length w → get_or w 0 0 ≤ 57 → name_of w ≡ None
no_letter [] some low = absurd (omega (arith, some))
no_letter (b ∷ bs) some low = none_spelled _ b bs low

no_name : (w : List ℕ) → 0 < length w → digits w ≡ true → name_of w ≡ None
no_name [] some h = absurd (omega arith)
no_name (b ∷ bs) some h = no_letter (b ∷ bs) some (digit_within b (and_parts (is_ascii_digit b) (digits bs) h).0).1

pub number_plain : (n : ℕ) → n < 2 ^ 64 → Plain (decimal n)
number_plain n h = plain_by is_ascii_digit (λ b k. let q = digit_within b k in omega (arith, q.0)) (decimal n) (decimal_nonempty n h) (digits_decimal own n h)

numeral_decimal : (n : ℕ) → n < 2 ^ 64 → numeral (decimal n) ≡ true
numeral_decimal n h =
    and_from (filled (decimal n)) (digits (decimal n)) (not_from_false _ (ne_eqb (length (decimal n)) 0 (λ e. omega (arith, decimal_nonempty n h)))) (digits_decimal own n h)

value_held : (n : ℕ) → n < 2 ^ 64 → held (value_after 0 (decimal n)) ≡ Some n
value_held n h = ap held (digits_value-decimal own n h) ∙ ap (λ t. cond t (Some n) None) (lt-ltb n (2 ^ 64) h)

no_sign : (w : List ℕ) → 0 < length w → digits w ≡ true → number_of w ≡ natural_of w
no_sign [] some h = absurd (omega arith)
no_sign (b ∷ bs) some h =
    let within = digit_within b (and_parts (is_ascii_digit b) (digits bs) h).0 in
    cond-false (eqb b 45) _ _ (ne_eqb b 45 (λ e. omega (arith, within.0)))

pub number_word : (n : ℕ) → n < 2 ^ 64 → word_of (decimal n) ≡ natural n
number_word n h =
    let d = digits_decimal own n h in
    let some = decimal_nonempty n h in
    ap (λ o. name_or o (number_of (decimal n))) (no_name (decimal n) some d)
    ∙ no_sign (decimal n) some d
    ∙ ap (λ t. cond t (Number (held (value_after 0 (decimal n)))) Other) (numeral_decimal n h)
    ∙ ap Number (value_held n h)

pub negative_word : (n : ℕ) → n < 2 ^ 64 → word_of (45 ∷ decimal n) ≡ Negative (Some n)
negative_word n h =
    ap (λ o. name_or o (negative_of (decimal n))) (none_spelled _ 45 (decimal n) (omega arith))
    ∙ ap (λ t. cond t (Negative (held (value_after 0 (decimal n)))) Other) (numeral_decimal n h)
    ∙ ap Negative (value_held n h)

pub number_words : (ns : List ℕ) → AllByRecursion (λ n. n < 65536) ns → map word_of (map decimal ns) ≡ map natural ns
number_words [] h = refl
number_words (n ∷ ns) h = ap (λ w. w ∷ map word_of (map decimal ns)) (number_word n (omega (arith, h.0))) ∙ ap (λ ws. natural n ∷ ws) (number_words ns h.1)

pub numbers_plain : (ns : List ℕ) → AllByRecursion (λ n. n < 65536) ns → AllByRecursion Plain (map decimal ns)
numbers_plain [] h = tt
numbers_plain (n ∷ ns) h = (number_plain n (omega (arith, h.0)), numbers_plain ns h.1)
