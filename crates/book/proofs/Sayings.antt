-- What the lines of a canonical text say. Assumes nothing.
use Rattle.std.proofs.Common.{◌≡◌, ℕ, suc, ◌^◌, ◌<◌, ◌≤◌, min, cond, List, [], ◌∷◌, map, length, take, ℤ, pos, negsuc, ◌≤ℤ◌, Some, None, Ok, Err, codes, decimal, Option, Result, sym, refl, ap, ◌∙◌, arith, length-take}
use native.Mathlib.Nat.{min-eq_left}
use Rattle.std.specs.Fmt.{signed_decimal}
use Rattle.std.specs.List.{AllByRecursion}
use Rattle.std.proofs.lemmas.List.{length-map}
use Rattle.std.proofs.lemmas.List.Elements.{recursion_from_All}
use Rattle.std.proofs.lemmas.Bool.{le-leb}
use Rattle.std.proofs.lemmas.Int.{ints}
use Rattle.theory.specs.declared.term.Term.{Term as TermRecord}
use Rattle.congruence.specs.declared.claim.Claim.{Claim as ClaimRecord}
use Rattle.difference.specs.declared.bound.Bound.{Bound as BoundRecord}
use Rattle.book.specs.declared.contents.Call.{Call as Calling}
use Rattle.book.specs.declared.contents.Call.TheVariants.{Assert as assert, TakeBack as take_back, Query as query, Write as write, Trial as trial, Close as close}
use Rattle.book.specs.declared.fault.Wrong.{Wrong}
use Rattle.book.specs.declared.fault.Wrong.TheVariants.{TooLarge, OutOfRange}
use Rattle.book.specs.declared.proposed.Proposed.{Proposed}
use Rattle.book.specs.declared.proposed.Proposed.TheVariants.{Decide as decide, Propagate as propagate, Imply as imply, Conflict as conflict, Clash as clash, Resolve as resolve, Jump as jump, Forget as forget, Fit as fit, NoFit as nofit}
use Rattle.book.specs.declared.word.Name.{Name}
use Rattle.book.specs.declared.word.Name.TheVariants.{Kind as kind, Ask as ask, Rule as rule, Sort as sort}
use Rattle.book.specs.declared.word.Kind.{Kind}
use Rattle.book.specs.declared.word.Kind.TheVariants.{Theory, Term, Claim, Clause, Row, Allowance, Call, Step}
use Rattle.book.specs.declared.word.Ask.TheVariants.{Assert, TakeBack, Query, Write, Trial, Close}
use Rattle.book.specs.declared.word.Rule.{Rule}
use Rattle.book.specs.declared.word.Rule.TheVariants.{Decide, Propagate, Imply, Conflict, Clash, Resolve, Jump, Forget, Fit, NoFit}
use Rattle.book.specs.declared.word.Sort.{Sort}
use Rattle.book.specs.declared.word.Sort.TheVariants.{Equality, Distance}
use Rattle.book.specs.declared.word.Word.TheVariants.{Known}
use Rattle.book.specs.Words.{spelling, word_of, words_of}
use Rattle.book.specs.Lines.{Saying, theory, term, claim, bound, clause, row, allowance, call, step, and_then, short_of, middle_of, long_of, signed_of, shorts_of, first_two, place_of, claim_of, called_by, proposed_by, line_by, said_by}
use Rattle.book.specs.Canonical.{spaced, theory_line, term_line, claim_line, bound_line, length_word, call_line, clause_line, row_line, allowance_line, step_line, TermFits, ClaimFits, BoundFits, LengthFits, CallFits, NumbersFit, ClauseFits, StepFits}
use Rattle.book.proofs.Spaced.{Plain, words_spaced}
use Rattle.book.proofs.Written.{natural, name_word, name_plain, number_plain, number_word, negative_word, number_words, numbers_plain}

-- ---- Numbers

short_number : (n : ℕ) → n < 65536 → short_of (natural n) ≡ Ok n
short_number n h = ap (λ t. cond t (Ok n) (Err (TooLarge 65535))) (le-leb n 65535 (omega arith))

middle_number : (n : ℕ) → n < 2 ^ 32 → middle_of (natural n) ≡ Ok n
middle_number n h = ap (λ t. cond t (Ok n) (Err (TooLarge 4294967295))) (le-leb n 4294967295 (omega arith))

long_number : (n : ℕ) → n < 2 ^ 64 → long_of (natural n) ≡ Ok n
long_number n h = ap (λ t. cond t (Ok n) (Err (TooLarge 18446744073709551615))) (le-leb n 18446744073709551615 (omega arith))

shorts_numbers : (ns : List ℕ) → AllByRecursion (λ n. n < 65536) ns → shorts_of (map natural ns) ≡ Ok ns
unfolding shorts_of
shorts_numbers [] h = refl
shorts_numbers (n ∷ ns) h =
    ap (λ r. and_then r (λ k. and_then (shorts_of (map natural ns)) (λ ks. Ok (k ∷ ks)))) (short_number n h.0) ∙ ap (λ r. and_then r (λ ks. Ok (n ∷ ks))) (shorts_numbers ns h.1)

small : (n : ℕ) → n < 65536 → n < 2 ^ 64
small n h = omega arith

signed_plain : (z : ℤ) → negsuc 2147483647 ≤ℤ z → z ≤ℤ pos 2147483647 → Plain (signed_decimal z)
signed_plain (pos n) low high = number_plain n (omega (arith, ints))
signed_plain (negsuc n) low high = (omega arith, (omega arith, (number_plain (suc n) (omega (arith, ints))).1))

signed_number : (z : ℤ) → negsuc 2147483647 ≤ℤ z → z ≤ℤ pos 2147483647 → signed_of (word_of (signed_decimal z)) ≡ Ok z
signed_number (pos n) low high = ap signed_of (number_word n (omega (arith, ints))) ∙ ap (λ t. cond t (Ok (pos n)) (Err OutOfRange)) (le-leb n 2147483647 (omega (arith, ints)))
signed_number (negsuc n) low high = ap signed_of (negative_word (suc n) (omega (arith, ints))) ∙ ap (λ t. cond t (Ok (negsuc n)) (Err OutOfRange)) (le-leb (suc n) 2147483648 (omega (arith, ints)))

-- ---- Terms and claims

-- a line goes by its kind
kind_said : (of : Option Sort) (k : Kind) (ws : List (List ℕ)) → AllByRecursion Plain ws → said_by of (words_of (spaced (spelling (kind k) ∷ ws))) ≡ line_by of k (map word_of ws)
kind_said of k ws h =
    ap (said_by of) (words_spaced (spelling (kind k) ∷ ws) (name_plain (kind k), h)) ∙ ap (λ w. said_by of (w ∷ map word_of ws)) (name_word (kind k))

args_fit : (t : TermRecord) → TermFits t → AllByRecursion (λ n. n < 65536) (take t.arity t.args)
args_fit t h = recursion_from_All (λ n. n < 65536) (take t.arity t.args) h.3

pub term_plain : (t : TermRecord) → TermFits t → AllByRecursion Plain (term_line t)
term_plain t h = (name_plain (kind Term), (number_plain t.symbol (small _ h.0), numbers_plain (take t.arity t.args) (args_fit t h)))

term_arity : (t : TermRecord) → TermFits t → t.arity ≡ min (length (map natural (take t.arity t.args))) 255
term_arity t h =
    let given = take t.arity t.args in
    let two_long : length t.args ≡ 2 = ap length h.2 in
    let small_arity : t.arity ≤ length t.args = omega (arith, h.1) in
    let long : length (map natural given) ≡ t.arity = length-map given natural ∙ length-take t.arity t.args ∙ min-eq_left small_arity in
    let fits : length (map natural given) ≤ 255 = omega (arith, h.1) in
    sym (min-eq_left fits ∙ long)

pub term_said : (of : Option Sort) (t : TermRecord) → TermFits t → said_by of (words_of (spaced (term_line t))) ≡ Ok (term t)
term_said of t h =
    let given = take t.arity t.args in
    let ws = map natural given in
    let said : Result TermRecord Wrong → Result Saying Wrong = λ r. and_then r (λ t. Ok (term t)) in
    kind_said of Term (decimal t.symbol ∷ map decimal given) (term_plain t h).1
    ∙ ap (λ w. line_by of Term (w ∷ map word_of (map decimal given))) (number_word t.symbol (small _ h.0))
    ∙ ap (λ ws. line_by of Term (natural t.symbol ∷ ws)) (number_words given (args_fit t h))
    ∙ ap (λ r. said (and_then r (λ symbol. and_then (shorts_of ws) (λ ns. Ok (record { symbol = symbol; arity = min (length ws) 255; args = first_two ns }))))) (short_number t.symbol h.0)
    ∙ ap (λ r. said (and_then r (λ ns. Ok (record { symbol = t.symbol; arity = min (length ws) 255; args = first_two ns })))) (shorts_numbers given (args_fit t h))
    ∙ ap (λ n. Ok (term (record { symbol = t.symbol; arity = n; args = first_two given }))) (sym (term_arity t h))
    ∙ ap (λ args. Ok (term (record { symbol = t.symbol; arity = t.arity; args = args }))) (sym h.2)

-- a claim line of any theory: its two terms, and the words after them
module _ (a b : ℕ) (ha : a < 65536) (hb : b < 65536) where
  pair_plain : (ws : List (List ℕ)) → AllByRecursion Plain ws → AllByRecursion Plain (spelling (kind Claim) ∷ decimal a ∷ decimal b ∷ ws)
  pair_plain ws h = (name_plain (kind Claim), (number_plain a (small a ha), (number_plain b (small b hb), h)))

  pair_said : (of : Option Sort) (ws : List (List ℕ)) → AllByRecursion Plain ws → said_by of (words_of (spaced (spelling (kind Claim) ∷ decimal a ∷ decimal b ∷ ws))) ≡ claim_of of (natural a ∷ natural b ∷ map word_of ws)
  pair_said of ws h =
      kind_said of Claim (decimal a ∷ decimal b ∷ ws) (pair_plain ws h).1
      ∙ ap (λ w. claim_of of (w ∷ word_of (decimal b) ∷ map word_of ws)) (number_word a (small a ha))
      ∙ ap (λ w. claim_of of (natural a ∷ w ∷ map word_of ws)) (number_word b (small b hb))

  pair_short : {A : Type 0} (f : ℕ → ℕ → Result A Wrong) → and_then (short_of (natural a)) (λ x. and_then (short_of (natural b)) (f x)) ≡ f a b
  pair_short f = ap (λ r. and_then r (λ x. and_then (short_of (natural b)) (f x))) (short_number a ha) ∙ ap (λ r. and_then r (f a)) (short_number b hb)

pub claim_plain : (k : ClaimRecord) → ClaimFits k → AllByRecursion Plain (claim_line k)
claim_plain k h = pair_plain k.left k.right h.0 h.1 [] tt

pub claim_said : (k : ClaimRecord) → ClaimFits k → said_by (Some Equality) (words_of (spaced (claim_line k))) ≡ Ok (claim k)
claim_said k h =
    pair_said k.left k.right h.0 h.1 (Some Equality) [] tt
    ∙ ap (λ r. and_then r (λ k. Ok (claim k))) (pair_short k.left k.right h.0 h.1 (λ left right. Ok (record { left = left; right = right })))

most_plain : (k : BoundRecord) → BoundFits k → AllByRecursion Plain (signed_decimal k.most ∷ [])
most_plain k h = (signed_plain k.most h.2 h.3, tt)

pub bound_plain : (k : BoundRecord) → BoundFits k → AllByRecursion Plain (bound_line k)
bound_plain k h = pair_plain k.term k.base h.0 h.1 (signed_decimal k.most ∷ []) (most_plain k h)

pub bound_said : (k : BoundRecord) → BoundFits k → said_by (Some Distance) (words_of (spaced (bound_line k))) ≡ Ok (bound k)
bound_said k h =
    let said : Result BoundRecord Wrong → Result Saying Wrong = λ r. and_then r (λ k. Ok (bound k)) in
    pair_said k.term k.base h.0 h.1 (Some Distance) (signed_decimal k.most ∷ []) (most_plain k h)
    ∙ ap said (pair_short k.term k.base h.0 h.1 (λ term base. and_then (signed_of (word_of (signed_decimal k.most))) (λ most. Ok (record { term = term; base = base; most = most }))))
    ∙ ap (λ r. said (and_then r (λ most. Ok (record { term = k.term; base = k.base; most = most })))) (signed_number k.most h.2 h.3)

-- ---- Clauses, rows and the allowance

-- a line that begins with its kind, with any numbers after it
module _ (k : Kind) (ns : List ℕ) (fit : NumbersFit ns) where
  row_of_plain : AllByRecursion Plain (spelling (kind k) ∷ map decimal ns)
  row_of_plain = (name_plain (kind k), numbers_plain ns (recursion_from_All (λ n. n < 65536) ns fit))

  row_of_said : (of : Option Sort) → said_by of (words_of (spaced (spelling (kind k) ∷ map decimal ns))) ≡ line_by of k (map natural ns)
  row_of_said of =
      kind_said of k (map decimal ns) row_of_plain.1 ∙ ap (λ ws. line_by of k ws) (number_words ns (recursion_from_All (λ n. n < 65536) ns fit))

  row_of_shorts : shorts_of (map natural ns) ≡ Ok ns
  row_of_shorts = shorts_numbers ns (recursion_from_All (λ n. n < 65536) ns fit)

pub clause_plain : (ls : List ℕ) → ClauseFits ls → AllByRecursion Plain (clause_line ls)
clause_plain ls h = row_of_plain Clause ls h.1

pub clause_said : (of : Option Sort) (ls : List ℕ) → ClauseFits ls → said_by of (words_of (spaced (clause_line ls))) ≡ Ok (clause ls)
clause_said of ls h = row_of_said Clause ls h.1 of ∙ ap (λ r. and_then r (λ ls. Ok (clause ls))) (row_of_shorts Clause ls h.1)

pub row_plain : (ns : List ℕ) → NumbersFit ns → AllByRecursion Plain (row_line ns)
row_plain ns h = row_of_plain Row ns h

pub row_said : (of : Option Sort) (ns : List ℕ) → NumbersFit ns → said_by of (words_of (spaced (row_line ns))) ≡ Ok (row ns)
row_said of ns h = row_of_said Row ns h of ∙ ap (λ r. and_then r (λ ns. Ok (row ns))) (row_of_shorts Row ns h)

middling : (n : ℕ) → n < 2 ^ 32 → n < 2 ^ 64
middling n h = omega arith

pub allowance_plain : (n : ℕ) → n < 2 ^ 32 → AllByRecursion Plain (allowance_line n)
allowance_plain n h = (name_plain (kind Allowance), (number_plain n (middling n h), tt))

pub allowance_said : (of : Option Sort) (n : ℕ) → n < 2 ^ 32 → said_by of (words_of (spaced (allowance_line n))) ≡ Ok (allowance n)
allowance_said of n h =
    kind_said of Allowance (decimal n ∷ []) (allowance_plain n h).1
    ∙ ap (λ w. line_by of Allowance (w ∷ [])) (number_word n (middling n h))
    ∙ ap (λ r. and_then r (λ n. Ok (allowance n))) (middle_number n h)

-- ---- Calls and steps

length_plain : (len : Option ℕ) → LengthFits len → AllByRecursion Plain (length_word len)
length_plain None h = tt
length_plain (Some n) h = (number_plain n (small n h), tt)

place_said : (a : Name) (len : Option ℕ) → LengthFits len → place_of a (map word_of (length_word len)) ≡ Ok len
place_said a None h = refl
place_said a (Some n) h = ap (λ w. place_of a (w ∷ [])) (number_word n (small n h)) ∙ ap (λ r. and_then r (λ k. Ok (Some k))) (short_number n h)

-- a line of two names, and the words after them
module _ (k : Kind) (a : Name) where
  named_plain : (ws : List (List ℕ)) → AllByRecursion Plain ws → AllByRecursion Plain (spelling (kind k) ∷ spelling a ∷ ws)
  named_plain ws h = (name_plain (kind k), (name_plain a, h))

  named_said : (of : Option Sort) (ws : List (List ℕ)) → AllByRecursion Plain (spelling (kind k) ∷ spelling a ∷ ws) → said_by of (words_of (spaced (spelling (kind k) ∷ spelling a ∷ ws))) ≡ line_by of k (Known a ∷ map word_of ws)
  named_said of ws h = kind_said of k (spelling a ∷ ws) h.1 ∙ ap (λ w. line_by of k (w ∷ map word_of ws)) (name_word a)

pub call_plain : (k : Calling) → CallFits k → AllByRecursion Plain (call_line k)
call_plain (assert l) h = named_plain Call (ask Assert) (length_word (Some l)) (length_plain (Some l) h)
call_plain (take_back k) h = named_plain Call (ask TakeBack) (decimal k ∷ []) (number_plain k h, tt)
call_plain (query len) h = named_plain Call (ask Query) _ (length_plain len h)
call_plain (write len) h = named_plain Call (ask Write) _ (length_plain len h)
call_plain (trial l) h = named_plain Call (ask Trial) (length_word (Some l)) (length_plain (Some l) h)
call_plain close h = named_plain Call (ask Close) [] tt

abbrev asks : Result Calling Wrong → Result Saying Wrong
asks r = and_then r (λ asked. Ok (call asked))

pub call_said : (of : Option Sort) (k : Calling) → CallFits k → said_by of (words_of (spaced (call_line k))) ≡ Ok (call k)
call_said of (assert l) h = named_said Call (ask Assert) of (decimal l ∷ []) (call_plain (assert l) h) ∙ ap (λ w. asks (called_by Assert (w ∷ []))) (number_word l (small l h)) ∙ ap (λ r. asks (and_then r (λ n. Ok (assert n)))) (short_number l h)
call_said of (take_back k) h = named_said Call (ask TakeBack) of (decimal k ∷ []) (call_plain (take_back k) h) ∙ ap (λ w. asks (called_by TakeBack (w ∷ []))) (number_word k h) ∙ ap (λ r. asks (and_then r (λ n. Ok (take_back n)))) (long_number k h)
call_said of (query len) h = named_said Call (ask Query) of (length_word len) (call_plain (query len) h) ∙ ap (λ r. asks (and_then r (λ n. Ok (query n)))) (place_said (ask Query) len h)
call_said of (write len) h = named_said Call (ask Write) of (length_word len) (call_plain (write len) h) ∙ ap (λ r. asks (and_then r (λ n. Ok (write n)))) (place_said (ask Write) len h)
call_said of (trial l) h = named_said Call (ask Trial) of (decimal l ∷ []) (call_plain (trial l) h) ∙ ap (λ w. asks (called_by Trial (w ∷ []))) (number_word l (small l h)) ∙ ap (λ r. asks (and_then r (λ n. Ok (trial n)))) (short_number l h)
call_said of close h = named_said Call (ask Close) of [] (call_plain close h)

pub step_plain : (k : Proposed) → StepFits k → AllByRecursion Plain (step_line k)
step_plain (decide l) h = named_plain Step (rule Decide) (length_word (Some l)) (length_plain (Some l) h)
step_plain (propagate c l) h = named_plain Step (rule Propagate) (decimal c ∷ decimal l ∷ []) (number_plain c (small c h.0), (number_plain l (small l h.1), tt))
step_plain (imply l) h = named_plain Step (rule Imply) (length_word (Some l)) (length_plain (Some l) h)
step_plain (conflict c) h = named_plain Step (rule Conflict) (length_word (Some c)) (length_plain (Some c) h)
step_plain clash h = named_plain Step (rule Clash) [] tt
step_plain resolve h = named_plain Step (rule Resolve) [] tt
step_plain (jump k c) h = named_plain Step (rule Jump) (decimal k ∷ decimal c ∷ []) (number_plain k (middling k h.0), (number_plain c (small c h.1), tt))
step_plain (forget c) h = named_plain Step (rule Forget) (length_word (Some c)) (length_plain (Some c) h)
step_plain (fit len) h = named_plain Step (rule Fit) (length_word len) (length_plain len h)
step_plain nofit h = named_plain Step (rule NoFit) [] tt

abbrev proposes : Result Proposed Wrong → Result Saying Wrong
proposes r = and_then r (λ k. Ok (step k))

-- a step that names one literal or one clause
one_said : (of : Option Sort) (a : Rule) (f : ℕ → Proposed) (n : ℕ) → n < 65536 → (proposed_by a (natural n ∷ []) ≡ and_then (short_of (natural n)) (λ n. Ok (f n))) → said_by of (words_of (spaced (codes "step" ∷ spelling (rule a) ∷ decimal n ∷ []))) ≡ Ok (step (f n))
one_said of a f n h by =
    named_said Step (rule a) of (decimal n ∷ []) (named_plain Step (rule a) (length_word (Some n)) (length_plain (Some n) h))
    ∙ ap (λ w. proposes (proposed_by a (w ∷ []))) (number_word n (small n h))
    ∙ ap proposes by
    ∙ ap (λ r. proposes (and_then r (λ n. Ok (f n)))) (short_number n h)

pub step_said : (of : Option Sort) (k : Proposed) → StepFits k → said_by of (words_of (spaced (step_line k))) ≡ Ok (step k)
step_said of (decide l) h = one_said of Decide decide l h refl
step_said of (propagate c l) h =
    named_said Step (rule Propagate) of (decimal c ∷ decimal l ∷ []) (step_plain (propagate c l) h)
    ∙ ap (λ w. proposes (proposed_by Propagate (w ∷ word_of (decimal l) ∷ []))) (number_word c (small c h.0))
    ∙ ap (λ w. proposes (proposed_by Propagate (natural c ∷ w ∷ []))) (number_word l (small l h.1))
    ∙ ap proposes (pair_short c l h.0 h.1 (λ c l. Ok (propagate c l)))
step_said of (imply l) h = one_said of Imply imply l h refl
step_said of (conflict c) h = one_said of Conflict conflict c h refl
step_said of clash h = named_said Step (rule Clash) of [] (step_plain clash h)
step_said of resolve h = named_said Step (rule Resolve) of [] (step_plain resolve h)
step_said of (jump k c) h =
    named_said Step (rule Jump) of (decimal k ∷ decimal c ∷ []) (step_plain (jump k c) h)
    ∙ ap (λ w. proposes (proposed_by Jump (w ∷ word_of (decimal c) ∷ []))) (number_word k (middling k h.0))
    ∙ ap (λ w. proposes (proposed_by Jump (natural k ∷ w ∷ []))) (number_word c (small c h.1))
    ∙ ap (λ r. proposes (and_then r (λ k. and_then (short_of (natural c)) (λ c. Ok (jump k c))))) (middle_number k h.0)
    ∙ ap (λ r. proposes (and_then r (λ c. Ok (jump k c)))) (short_number c h.1)
step_said of (forget c) h = one_said of Forget forget c h refl
step_said of (fit len) h = named_said Step (rule Fit) of (length_word len) (step_plain (fit len) h) ∙ ap (λ r. proposes (and_then r (λ len. Ok (fit len)))) (place_said (rule Fit) len h)
step_said of nofit h = named_said Step (rule NoFit) of [] (step_plain nofit h)

-- ---- The theory

pub theory_plain : (o : Sort) → AllByRecursion Plain (theory_line o)
theory_plain o = (name_plain (kind Theory), (name_plain (sort o), tt))

pub theory_said : (of : Option Sort) (o : Sort) → said_by of (words_of (spaced (theory_line o))) ≡ Ok (theory o)
theory_said of o = named_said Theory (sort o) of [] (theory_plain o)
