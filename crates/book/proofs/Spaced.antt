-- Lines and words of a text with single blanks. Assumes nothing.
use Rattle.std.proofs.Common.{◌≡◌, ℕ, ◌<◌, Bool, true, false, not, cond, ◌||◌, eqb, List, [], ◌∷◌, ◌++◌, map, filter, length, take, refl, ap, ◌∙◌, arith}
use Rattle.std.specs.List.{AllByRecursion, list_all, slice_split, onto_first, before_first, position_or_len}
use Rattle.std.proofs.ByRecursion.{All-append}
use Rattle.std.proofs.lemmas.List.{take_all}
use Rattle.std.proofs.lemmas.List.Elements.{All-from_recursion, All-get_or}
use Rattle.std.proofs.lemmas.List.Splits.{slice_split_none, slice_split_at}
use Rattle.std.proofs.lemmas.List.Sums.{position_or_len_is}
use Rattle.std.proofs.lemmas.Bool.{ne_eqb, or_from, and_parts}
use Rattle.book.specs.Pieces.{newline, hash, blank, lines}
use Rattle.book.specs.Words.{word_of, filled, words_among, words_of}
use Rattle.book.specs.Canonical.{spaced, text_of}
use Rattle.book.proofs.Cuts.{lines_none}

-- a word of bytes that end nothing: line feeds, number signs and blanks are bytes up to 35
abbrev pub Plain : List ℕ → Type 0
Plain w = (0 < length w) × AllByRecursion (λ b. 35 < b) w

newline_low : (b : ℕ) → 35 < b → newline b ≡ false
newline_low b h = ne_eqb b 10 (λ e. omega arith)

hash_low : (b : ℕ) → 35 < b → hash b ≡ false
hash_low b h = ne_eqb b 35 (λ e. omega arith)

blank_low : (b : ℕ) → 35 < b → blank b ≡ false
blank_low b h = or_from (eqb b 32) (eqb b 9 || eqb b 13) (ne_eqb b 32 (λ e. omega arith)) (or_from (eqb b 9) (eqb b 13) (ne_eqb b 9 (λ e. omega arith)) (ne_eqb b 13 (λ e. omega arith)))

-- what a test shows of a word
pub plain_by : (p : ℕ → Bool) → ((b : ℕ) → p b ≡ true → 35 < b) → (w : List ℕ) → 0 < length w → list_all p w ≡ true → Plain w
plain_by p high w some h = (some, go w h)
  where
    go : (bs : List ℕ) → list_all p bs ≡ true → AllByRecursion (λ b. 35 < b) bs
    go [] h = tt
    go (b ∷ bs) h = let q = and_parts (p b) (list_all p bs) h in (high b q.0, go bs q.1)

-- ---- bytes of which none passes a test, as no byte above 35 does

module _ (p : ℕ → Bool) (low : (b : ℕ) → 35 < b → p b ≡ false) where
  abbrev Free : List ℕ → Type 0
  Free bs = AllByRecursion (λ b. p b ≡ false) bs

  free_plain : (bs : List ℕ) → AllByRecursion (λ b. 35 < b) bs → Free bs
  free_plain [] h = tt
  free_plain (b ∷ bs) h = (low b h.0, free_plain bs h.1)

  spaced_free : p 32 ≡ false → (ws : List (List ℕ)) → AllByRecursion Plain ws → Free (spaced ws)
  spaced_free e [] h = tt
  spaced_free e (w ∷ []) h = free_plain w h.0.1
  spaced_free e (w ∷ v ∷ ws) h = All-append (λ b. p b ≡ false) w (32 ∷ spaced (v ∷ ws)) (free_plain w h.0.1) (e, spaced_free e (v ∷ ws) h.1)

  before_free : (l : List ℕ) → Free l → before_first p l ≡ l
  before_free l f =
      let g = All-from_recursion (λ b. p b ≡ false) l f in
      let e : position_or_len p l ≡ length l = position_or_len_is p l (length l) 0 (omega arith) (λ k h. All-get_or (λ b. p b ≡ false) l k 0 h g) (λ h. absurd (omega arith)) in
      ap (λ n. take n l) e ∙ take_all (length l) l (omega arith)

-- ---- what is cut

lines_cut : (l rest : List ℕ) → AllByRecursion (λ b. newline b ≡ false) l → lines (l ++ 10 ∷ rest) ≡ l ∷ lines rest
unfolding lines
lines_cut [] rest f = refl
lines_cut (b ∷ l) rest f =
    ap (λ t. cond t ([] ∷ lines (l ++ 10 ∷ rest)) (onto_first b (lines (l ++ 10 ∷ rest)))) f.0 ∙ ap (onto_first b) (lines_cut l rest f.1)

filled_cons : (w : List ℕ) (ps : List (List ℕ)) → 0 < length w → filter filled (w ∷ ps) ≡ w ∷ filter filled ps
filled_cons w ps h = ap (λ t. cond (not t) (w ∷ filter filled ps) (filter filled ps)) (ne_eqb (length w) 0 (λ e. omega arith))

filled_spaced : (ws : List (List ℕ)) → AllByRecursion Plain ws → filter filled (slice_split blank (spaced ws)) ≡ ws
filled_spaced [] h = refl
filled_spaced (w ∷ []) h =
    ap (filter filled) (slice_split_none blank w (All-from_recursion (λ b. blank b ≡ false) w (free_plain blank blank_low w h.0.1))) ∙ filled_cons w [] h.0.0
filled_spaced (w ∷ v ∷ ws) h =
    ap (filter filled) (slice_split_at blank w 32 (spaced (v ∷ ws)) (All-from_recursion (λ b. blank b ≡ false) w (free_plain blank blank_low w h.0.1)) refl)
    ∙ filled_cons w (slice_split blank (spaced (v ∷ ws))) h.0.0
    ∙ ap (λ ps. w ∷ ps) (filled_spaced (v ∷ ws) h.1)

-- the words of a line are the words that were written
pub words_spaced : (ws : List (List ℕ)) → AllByRecursion Plain ws → words_of (spaced ws) ≡ map word_of ws
unfolding words_among
words_spaced ws h = ap words_among (before_free hash hash_low (spaced ws) (spaced_free hash hash_low refl ws h)) ∙ ap (map word_of) (filled_spaced ws h)

-- the lines of a text are the lines that were written
pub lines_text : (ls : List (List (List ℕ))) → AllByRecursion (AllByRecursion Plain) ls → lines (text_of ls) ≡ map spaced ls
lines_text [] h = lines_none [] refl
lines_text (l ∷ ls) h = lines_cut (spaced l) (text_of ls) (spaced_free newline newline_low refl l h.0) ∙ ap (λ ps. spaced l ∷ ps) (lines_text ls h.1)
