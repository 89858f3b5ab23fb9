-- Looking back from a trail's end, entry by entry: the latest that a conflict hits, and the one above a level. And the
-- literals that a core names. Assumes nothing.
use Rattle.std.proofs.Common.{◌≡◌, ℕ, ◌+◌, ◌-◌, ◌<◌, ◌≤◌, true, false, cond, List, [], ◌∷◌, ◌++◌, length, get_or, slice_index, map, take, filter, reverse, Option, Some, None, sym, refl, ap, ◌∙◌, ⊎_elim, arith}
use Rattle.std.proofs.lemmas.Bool.{cases_lt, lt-leb}
use Rattle.std.proofs.lemmas.List.{reverse-append, length-reverse, length-take-le, take_all, take_more, take-take, take-append-le, map_more, get_or-map, get_or_past, length-map}
use Rattle.std.specs.Option.{is_some, option_map}
use Rattle.theory.specs.Literals.{complement}
use Rattle.rules.specs.declared.entry.Entry.{Entry}
use Rattle.rules.specs.Clauses.{only}
use Rattle.rules.specs.States.{asserted, level}
use Rattle.rules.specs.Rules.{above, hit, latest}
use Rattle.rules.proofs.Views.{above_none}
use Rattle.trail.specs.Kept.{Leveled}
use Rattle.trail.specs.Trails.{latest_at, blamed}
use Rattle.trail.proofs.Kept.{reverse_push}

-- the entries before a place, the latest first
abbrev pub before : List Entry → ℕ → List Entry
before es p = reverse (take p es)

pub before_all : (es : List Entry) (p : ℕ) → length es ≤ p → before es p ≡ reverse es
before_all es p h = ap reverse (take_all p es h)

before_more : (es : List Entry) (p : ℕ) (d : Entry) → 0 < p → p ≤ length es → before es p ≡ get_or es (p - 1) d ∷ before es (p - 1)
before_more es p d a b =
    ap (before es) one ∙ ap reverse (take_more es (p - 1) d (omega arith)) ∙ reverse_push (take (p - 1) es) (get_or es (p - 1) d)
  where
    one : p ≡ (p - 1) + 1
    one = omega arith

before_length : (es : List Entry) (p : ℕ) → p ≤ length es → length (before es p) ≡ p
before_length es p h = length-reverse (take p es) ∙ length-take-le p es h

-- an entry read before a place
before_read : (es : List Entry) (p : ℕ) (e : Entry) → 0 < p → p ≤ length es → e ≡ get_or es (p - 1) e → before es p ≡ e ∷ before es (p - 1)
before_read es p e a b r = before_more es p e a b ∙ ap (λ x. x ∷ before es (p - 1)) (sym r)

-- ---- the latest entry that a conflict hits

module _ (C : List ℕ) (es : List Entry) (p : ℕ) (e : Entry) (a : 0 < p) (b : p ≤ length es) (r : e ≡ get_or es (p - 1) e) where
  place : Entry × List Entry → Entry × ℕ
  place at = (at.0, length at.1)

  reached : latest C (before es p) ≡ cond (hit C e) (Some (e, before es (p - 1))) (latest C (before es (p - 1)))
  reached = ap (latest C) (before_read es p e a b r)

  pub latest_miss : hit C e ≡ false → latest_at C (before es (p - 1)) ≡ latest_at C (before es p)
  unfolding place
  latest_miss h = ap (option_map place) (sym (reached ∙ ap (λ b. cond b (Some (e, before es (p - 1))) (latest C (before es (p - 1)))) h))

  pub latest_hit : hit C e ≡ true → latest_at C (before es p) ≡ Some (e, p - 1)
  unfolding place
  latest_hit h =
      ap (option_map place) (reached ∙ ap (λ b. cond b (Some (e, before es (p - 1))) (latest C (before es (p - 1)))) h)
      ∙ ap (λ (n : ℕ). Some (e, n)) (before_length es (p - 1) (omega arith))

-- ---- the one entry above a level

-- what a search comes to that found a literal or none, over the entries that are left
abbrev or_sole : Option ℕ → List Entry → Option ℕ
or_sole None es = option_map (λ e. complement e.literal) (only es)
or_sole (Some l) [] = Some l
or_sole (Some l) (e ∷ es) = None

abbrev pub sole_left : ℕ → List ℕ → Option ℕ → List Entry → Option ℕ
sole_left k C sole t = or_sole sole (filter (hit C) (above k t))

above_more : (k : ℕ) (e : Entry) (t : List Entry) → k < level (e ∷ t) → above k (e ∷ t) ≡ e ∷ above k t
above_more k e t h = rw (lt-leb (level (e ∷ t)) k h)

pub level_before : (levels : List ℕ) (es : List Entry) (p : ℕ) → Leveled levels es → 0 < p → p ≤ length es → slice_index levels (p - 1) ≡ level (before es p)
level_before levels es p k a b = k (p - 1) (omega arith) ∙ ap (λ (q : ℕ). level (before es q)) one
  where
    one : (p - 1) + 1 ≡ p
    one = omega arith

pub sole_end : (k : ℕ) (C : List ℕ) (sole : Option ℕ) (t : List Entry) → level t ≤ k → sole_left k C sole t ≡ sole
sole_end k C sole t h = ap (λ es. or_sole sole (filter (hit C) es)) (above_none k t h) ∙ none sole
  where
    none : (o : Option ℕ) → or_sole o [] ≡ o
    none None = refl
    none (Some l) = refl

module _ (k : ℕ) (C : List ℕ) (es : List Entry) (p : ℕ) (e : Entry) (a : 0 < p) (b : p ≤ length es) (r : e ≡ get_or es (p - 1) e) (over : k < level (before es p)) where
  rest : List Entry
  rest = filter (hit C) (above k (before es (p - 1)))

  reads : (o : Option ℕ) → sole_left k C o (before es p) ≡ or_sole o (cond (hit C e) (e ∷ rest) rest)
  unfolding rest
  reads o =
      ap (λ t. or_sole o (filter (hit C) (above k t))) q ∙ ap (λ t. or_sole o (filter (hit C) t)) (above_more k e (before es (p - 1)) (omega (arith, ap level q)))
    where
      q : before es p ≡ e ∷ before es (p - 1)
      q = before_read es p e a b r

  pub sole_miss : (o : Option ℕ) → hit C e ≡ false → sole_left k C o (before es (p - 1)) ≡ sole_left k C o (before es p)
  unfolding rest
  sole_miss o h = sym (reads o ∙ ap (λ b. or_sole o (cond b (e ∷ rest) rest)) h)

  pub sole_first : (o : Option ℕ) → is_some o ≡ false → hit C e ≡ true → sole_left k C (Some (complement e.literal)) (before es (p - 1)) ≡ sole_left k C o (before es p)
  unfolding rest
  sole_first o n h = first o n rest ∙ sym (reads o ∙ ap (λ b. or_sole o (cond b (e ∷ rest) rest)) h)
    where
      first : (o : Option ℕ) → is_some o ≡ false → (fs : List Entry) → or_sole (Some (complement e.literal)) fs ≡ or_sole o (e ∷ fs)
      first None n [] = refl
      first None n (f ∷ fs) = refl
      first (Some l) n fs = cc

  pub sole_second : (o : Option ℕ) → is_some o ≡ true → hit C e ≡ true → sole_left k C o (before es p) ≡ None
  unfolding rest
  sole_second o n h = reads o ∙ ap (λ b. or_sole o (cond b (e ∷ rest) rest)) h ∙ second o n
    where
      second : (o : Option ℕ) → is_some o ≡ true → or_sole o (e ∷ rest) ≡ None
      second None n = cc
      second (Some l) n = refl

-- ---- the literals that a core names

asserted_push : (t : List Entry) (e : Entry) → asserted (t ++ e ∷ []) ≡ e.literal ∷ asserted t
asserted_push [] e = refl
asserted_push (d ∷ t) e = ap (λ ls. ls ++ d.literal ∷ []) (asserted_push t e)

asserted_reverse : (es : List Entry) → asserted (reverse es) ≡ map (λ e. e.literal) es
asserted_reverse [] = refl
asserted_reverse (e ∷ es) =
    ap asserted (reverse-append (e ∷ []) es) ∙ asserted_push (reverse es) e ∙ ap (λ ls. e.literal ∷ ls) (asserted_reverse es)

pub named_entry : (es : List Entry) (p next : ℕ) (e : Entry) → p < length es → e ≡ get_or es p e → e.literal ≡ get_or (asserted (reverse es)) p next
named_entry es p next e h r =
    ap (λ (x : Entry). x.literal) r ∙ sym (get_or-map (λ (x : Entry). x.literal) es p e next h) ∙ ap (λ ls. get_or ls p next) (sym (asserted_reverse es))

pub named_next : (es : List Entry) (p next : ℕ) → length es ≤ p → next ≡ get_or (asserted (reverse es)) p next
named_next es p next h =
    sym (get_or_past (map (λ (x : Entry). x.literal) es) p next (omega (arith, length-map es (λ (x : Entry). x.literal))))
    ∙ ap (λ ls. get_or ls p next) (sym (asserted_reverse es))

-- a list that is cut at a length takes an element as the whole list does
take_push : (n : ℕ) (xs : List ℕ) (y : ℕ) → take n (take n xs ++ y ∷ []) ≡ take n (xs ++ y ∷ [])
take_push n xs y =
    ⊎_elim
    (λ (h : length xs < n). ap (λ zs. take n (zs ++ y ∷ [])) (take_all n xs (omega arith)))
    (λ (h : n ≤ length xs).
    take-append-le n (take n xs) (y ∷ []) (omega (arith, length-take-le n xs h)) ∙ take-take n n xs (omega arith) ∙ sym (take-append-le n xs (y ∷ []) h))
    (cases_lt (length xs) n)

pub blamed_more : (n : ℕ) (ls : List ℕ) (next : ℕ) (core : List ℕ) (i : ℕ) (l : ℕ) (clause : List ℕ) → i < length core → l ≡ get_or ls (slice_index core i) next
    → clause ≡ take n (blamed ls next (take i core)) → take n (clause ++ complement l ∷ []) ≡ take n (blamed ls next (take (i + 1) core))
blamed_more n ls next core i l clause h r old =
    ap (λ xs. take n (xs ++ complement l ∷ [])) old ∙ take_push n (blamed ls next (take i core)) (complement l)
    ∙ ap (λ (x : ℕ). take n (blamed ls next (take i core) ++ complement x ∷ [])) r
    ∙ ap (take n) (sym (map_more (λ p. complement (get_or ls p next)) core i 0 h))
