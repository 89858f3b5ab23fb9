-- Trails in order: literals of the theory's claims, no claim twice, and each literal with a reason follows from those
-- before it. Assumes nothing.
use Rattle.std.proofs.Common.{◌≡◌, ℕ, suc, ◌*◌, ◌<◌, ◌≤◌, true, false, not, ◌||◌, eqb, ◌≢◌, ◌⊎◌, List, [], ◌∷◌, ◌++◌, map, length, slice_index, ℤ, Option, None, Some, is_some, inl, inr, refl, sym, ap, ap₂, ◌∙◌, subst, ⊎_elim, arith}
use Rattle.std.proofs.lemmas.Bool.{both_ways, and_parts, or_parts, not-true, eqb-false, true_from_ne_false}
use Rattle.std.proofs.lemmas.List.{get_or_append_left, get_or_push, length_push, take_at}
use Rattle.std.proofs.lemmas.List.Elements.{All-cons}
use Rattle.std.proofs.Math.Bool.{or_comm}
use Rattle.std.specs.List.{All}
use Rattle.theory.specs.Literals.{complement, has, names, apart, Proper}
use Rattle.theory.specs.Meaning.{Answer, possible, impossible, Meaning, Lawful, Fit}
use Rattle.theory.proofs.Answers.{rising_below}
use Rattle.theory.proofs.Claims.{names_later, proper_push, proper_take, proper_few}
use Rattle.rules.specs.declared.entry.Reason.{Reason}
use Rattle.rules.specs.declared.entry.Reason.TheVariants.{Decided, Clause, Theory}
use Rattle.rules.specs.declared.entry.Entry.{Entry}
use Rattle.rules.specs.Clauses.{Keeps}
use Rattle.rules.specs.States.{literals, asserted}
use Rattle.rules.specs.Rules.{false_on, blame, theory_blames, explained}
use Rattle.rules.proofs.Lists.{contains, contained, has_here, has_later, has_cases, has_push, has_at}

-- ---- literals

pub twice : (l : ℕ) → complement (complement l) ≡ l
twice l = omega arith

complement_below : (l n : ℕ) → l < 2 * n → complement l < 2 * n
complement_below l n h = omega arith

pub below_complement : (l n : ℕ) → complement l < 2 * n → l < 2 * n
below_complement l n h = omega arith

-- a list that does not name a literal has neither it nor its complement
pub not_named : (ls : List ℕ) (l : ℕ) → names ls l ≡ false → has ls l ≡ true → ⊥
not_named ls l h i = both_ways (has ls l) (or_parts (has ls l) (has ls (complement l)) h).0 i

pub not_denied : (ls : List ℕ) (l : ℕ) → names ls l ≡ false → has ls (complement l) ≡ true → ⊥
not_denied ls l h i = both_ways (has ls (complement l)) (or_parts (has ls l) (has ls (complement l)) h).1 i

pub complement_named : (ls : List ℕ) (l : ℕ) → names ls (complement l) ≡ names ls l
complement_named ls l = rw (twice l) (or_comm (has ls (complement l)) (has ls l))

-- the last literal of a list with no claim twice is not named before it
apart_last : (ls : List ℕ) (l : ℕ) → apart (ls ++ l ∷ []) ≡ true → names ls l ≡ false
apart_last [] l h = refl
apart_last (m ∷ ms) l h =
    let b = and_parts (not (names (ms ++ l ∷ []) m)) (apart (ms ++ l ∷ [])) h in
    let p = or_parts (has (ms ++ l ∷ []) m) (has (ms ++ l ∷ []) (complement m)) (not-true (names (ms ++ l ∷ []) m) b.0) in
    let q = eqb-false l m ((or_parts (eqb l m) (has ms m) (sym (has_push ms l m) ∙ p.0)).0) in
    let r = eqb-false l (complement m) ((or_parts (eqb l (complement m)) (has ms (complement m)) (sym (has_push ms l (complement m)) ∙ p.1)).0) in
    names_later m ms l (λ e. let z : l ≡ complement m = omega (arith, q) in r z) ∙ apart_last ms l b.1

-- ---- a trail's literals, from either end

pub asserted_has : (t : List Entry) (x : ℕ) → has (asserted t) x ≡ has (literals t) x
asserted_has [] x = refl
asserted_has (e ∷ t) x = has_push (asserted t) e.literal x ∙ ap (λ b. eqb e.literal x || b) (asserted_has t x)

pub asserted_names : (t : List Entry) (l : ℕ) → names (asserted t) l ≡ names (literals t) l
asserted_names t l = ap₂ (λ a b. a || b) (asserted_has t l) (asserted_has t (complement l))

pub asserted_length : (t : List Entry) → length (asserted t) ≡ length t
asserted_length [] = refl
asserted_length (e ∷ t) = omega (arith, length_push (asserted t) e.literal, asserted_length t)

-- ---- a trail's latest entry

-- a trail takes a literal of the claims that it does not name
pub record Takes (n : ℕ) (t : List Entry) (l : ℕ) : Type 0 where
  pub below : l < 2 * n
  pub off : names (literals t) l ≡ false

-- what stands before the latest entry has taken its literal
pub latest_goes : (n : ℕ) (e : Entry) (t : List Entry) → Proper n (asserted (e ∷ t)) → Takes n t e.literal
latest_goes n e t p = record {
  below = subst (λ l. l < 2 * n) (get_or_push (asserted t) e.literal 0 (length (asserted t)) refl)
      (p.below (length (asserted t)) 0 (omega (arith, length_push (asserted t) e.literal)));
  off = sym (asserted_names t e.literal) ∙ apart_last (asserted t) e.literal p.apart_claims;
}

pub proper_before : (n : ℕ) (e : Entry) (t : List Entry) → Proper n (asserted (e ∷ t)) → Proper n (asserted t)
proper_before n e t p =
    subst (Proper n) (take_at (asserted t) (e.literal ∷ []) (length (asserted t)) refl) (proper_take n (length (asserted t)) (asserted t ++ e.literal ∷ []) p)

pub proper_length : (n : ℕ) (t : List Entry) → Proper n (asserted t) → length t ≤ n
proper_length n t p = omega (arith, asserted_length t, proper_few n (asserted t) p)

-- ---- trails in order

-- an entry that follows has a clause with its literal, of which each other literal is false on the trail before it
pub record Grounds (e : Entry) (t : List Entry) (R : List ℕ) : Type 0 where
  pub own : has R e.literal ≡ true
  pub others : (m : ℕ) → has R m ≡ true → m ≢ e.literal → false_on t m ≡ true

pub record Grounded (M : Meaning) (clause_at : ℕ → Option (List ℕ)) (e : Entry) (t : List Entry) : Type 0 where
  pub by : List ℕ
  pub is : explained (theory_blames M) clause_at e.reason e.literal t ≡ Some by
  pub grounds : Grounds e t by

-- the same said without a choice, so that it is a proposition
pub record SoundEntry (M : Meaning) (clause_at : ℕ → Option (List ℕ)) (e : Entry) (t : List Entry) : Type 0 where
  pub below : e.literal < 2 * M.claims
  pub fresh : names (literals t) e.literal ≡ false
  pub follows : e.reason ≢ Decided → is_some (explained (theory_blames M) clause_at e.reason e.literal t) ≡ true
  pub grounds : (R : List ℕ) → explained (theory_blames M) clause_at e.reason e.literal t ≡ Some R → Grounds e t R

module _ (M : Meaning) (clause_at : ℕ → Option (List ℕ)) (e : Entry) (t : List Entry) where
  abbrev clause_of : Option (List ℕ)
  clause_of = explained (theory_blames M) clause_at e.reason e.literal t

  pub sound_entry : e.literal < 2 * M.claims → names (literals t) e.literal ≡ false → (e.reason ≡ Decided) ⊎ Grounded M clause_at e t → SoundEntry M clause_at e t
  sound_entry b f (inl d) =
      let none : clause_of ≡ None = ap (λ r. explained (theory_blames M) clause_at r e.literal t) d in
      record { below = b; fresh = f; follows = λ n. absurd (n d); grounds = λ R q. absurd (cc) }
  sound_entry b f (inr x) = record {
    below = b;
    fresh = f;
    follows = λ n. ap is_some x.is;
    grounds = λ R q. let y : x.by ≡ R = cc (x.is) in subst (Grounds e t) y x.grounds;
  }

  pub ground : SoundEntry M clause_at e t → (e.reason ≡ Decided) ⊎ Grounded M clause_at e t
  ground k = go e.reason refl
    where
      some : (o : Option (List ℕ)) → clause_of ≡ o → is_some o ≡ true → Grounded M clause_at e t
      some None q h = absurd (both_ways false refl h)
      some (Some R) q h = record { by = R; is = q; grounds = k.grounds R q }

      go : (r : Reason) → e.reason ≡ r → (e.reason ≡ Decided) ⊎ Grounded M clause_at e t
      go Decided d = inl d
      go (Clause c) d = inr (some clause_of refl (k.follows (λ n. absurd (cc))))
      go Theory d = inr (some clause_of refl (k.follows (λ n. absurd (cc))))

abbrev pub SoundTrail : Meaning → (ℕ → Option (List ℕ)) → List Entry → Type 0
SoundTrail M clause_at [] = Unit {0}
SoundTrail M clause_at (e ∷ t) = SoundEntry M clause_at e t × SoundTrail M clause_at t

module _ (M : Meaning) (clause_at : ℕ → Option (List ℕ)) where
  pub on_below : (t : List Entry) → SoundTrail M clause_at t → (x : ℕ) → has (literals t) x ≡ true → x < 2 * M.claims
  on_below [] k x i = absurd (both_ways false refl i)
  on_below (e ∷ t) k x i = ⊎_elim (λ (q : e.literal ≡ x). omega (arith, k.0.below)) (λ j. on_below t k.1 x j) (has_cases e.literal (literals t) x i)

  -- not both of a literal and its complement are on it
  pub on_once : (t : List Entry) → SoundTrail M clause_at t → (x : ℕ) → has (literals t) x ≡ true → has (literals t) (complement x) ≡ true → ⊥
  on_once [] k x i j = both_ways false refl i
  on_once (e ∷ t) k x i j =
      ⊎_elim
      (λ (q : e.literal ≡ x). ⊎_elim (λ (r : e.literal ≡ complement x). omega arith)
      (λ r. not_denied (literals t) e.literal k.0.fresh (subst (λ z. has (literals t) (complement z) ≡ true) (sym q) r)) (has_cases e.literal (literals t) (complement x) j))
      (λ q. ⊎_elim
      (λ (r : e.literal ≡ complement x). let z : x ≡ complement e.literal = omega arith in
      not_denied (literals t) e.literal k.0.fresh (subst (λ y. has (literals t) y ≡ true) z q))
      (λ r. on_once t k.1 x q r) (has_cases e.literal (literals t) (complement x) j))
      (has_cases e.literal (literals t) x i)

  pub proper_trail : (t : List Entry) → SoundTrail M clause_at t → Proper M.claims (asserted t)
  proper_trail [] k = record { below = λ i d h. absurd (omega arith); apart_claims = refl }
  proper_trail (e ∷ t) k =
      proper_push M.claims (asserted t) e.literal (proper_trail t k.1) k.0.below (asserted_names t e.literal ∙ k.0.fresh)

  pub proper_denied : (t : List Entry) (l : ℕ) → SoundTrail M clause_at t → l < 2 * M.claims → names (literals t) l ≡ false
      → Proper M.claims (asserted t ++ complement l ∷ [])
  proper_denied t l k h f =
      proper_push M.claims (asserted t) (complement l) (proper_trail t k) (complement_below l M.claims h)
      (asserted_names t (complement l) ∙ complement_named (literals t) l ∙ f)

  pub trail_few : (t : List Entry) → SoundTrail M clause_at t → length t ≤ M.claims
  trail_few t k = proper_length M.claims t (proper_trail t k)

-- ---- what the theory blames

blamed_has : (ls core : List ℕ) (m : ℕ) → All (λ p. p < length ls) core → has (map (λ p. complement (slice_index ls p)) core) m ≡ true
    → has ls (complement m) ≡ true
blamed_has ls [] m a i = absurd (both_ways false refl i)
blamed_has ls (p ∷ ps) m a i =
    ⊎_elim
    (λ (q : complement (slice_index ls p) ≡ m).
    subst (λ z. has ls z ≡ true) (sym (twice (slice_index ls p)) ∙ ap complement q) (has_at ls p (a 0 0 (omega arith))))
    (λ j. blamed_has ls ps m (λ k d h. a (suc k) d (omega (arith, h))) j)
    (has_cases (complement (slice_index ls p)) (map (λ p. complement (slice_index ls p)) ps) m i)

-- The law of the theory, that in a fit exactly one of a literal and its complement holds, is used here alone: a core
-- gives a
-- clause by it, and two clauses their resolvent.
pub record OneOfTwo (A B : Type 0) : Type 0 where
  pub one : A ⊎ B
  pub not_both : A → B → ⊥

pub exactly_one : (M : Meaning) → Lawful M → (v : List ℤ) → Fit M v → (l : ℕ) → l < 2 * M.claims → OneOfTwo (M.Holds l v) (M.Holds (complement l) v)
exactly_one M law v f l h = record { one = law.one_holds v f l h; not_both = law.not_both v f l h }

module _ (M : Meaning) (law : Lawful M) (ls : List ℕ) (proper : Proper M.claims ls) where
  -- in a fit all literals of a core hold, or the complement of one does
  core_cases : (v : List ℤ) → Fit M v → (ps : List ℕ) → All (λ p. p < length ls) ps
      → All (λ p. M.Holds (slice_index ls p) v) ps ⊎ Keeps M v (map (λ p. complement (slice_index ls p)) ps)
  core_cases v f [] a = inl (λ k d h. absurd (omega arith))
  core_cases v f (p ∷ ps) a =
      ⊎_elim
      (λ (h : M.Holds (slice_index ls p) v).
      ⊎_elim (λ (hs : All (λ p. M.Holds (slice_index ls p) v) ps). inl (All-cons (λ p. M.Holds (slice_index ls p) v) p ps h hs))
      (λ (r : Keeps M v (map (λ p. complement (slice_index ls p)) ps)).
      inr (
        r.0,
        contains (map (λ p. complement (slice_index ls p)) (p ∷ ps)) r.0
            (has_later (complement (slice_index ls p)) (map (λ p. complement (slice_index ls p)) ps) r.0 (contained (map (λ p. complement (slice_index ls p)) ps) r.0 r.1)),
        r.2,
      ))
      (core_cases v f ps (λ k d i. a (suc k) d (omega (arith, i)))))
      (λ h. inr (
        complement (slice_index ls p),
        contains (map (λ p. complement (slice_index ls p)) (p ∷ ps)) (complement (slice_index ls p))
            (has_here (complement (slice_index ls p)) (map (λ p. complement (slice_index ls p)) ps) (complement (slice_index ls p)) refl),
        h,
      ))
      (exactly_one M law v f (slice_index ls p) (proper.below p 0 (a 0 0 (omega arith)))).one

  -- what is blamed is kept by every fit
  pub blame_kept : (a : Answer) (D : List ℕ) → M.answer ls ≡ a → blame ls a ≡ Some D → (v : List ℤ) → Fit M v → Keeps M v D
  blame_kept possible D e h v f = cc
  blame_kept (impossible core) D e h v f =
      let is : map (λ p. complement (slice_index ls p)) core ≡ D = cc in
      subst (Keeps M v) is
      (⊎_elim (λ hs. absurd (law.core_fails ls core proper e v f hs)) (λ r. r)
      (core_cases v f core (rising_below (length ls) core (law.core_rises ls core proper e))))

  -- and has complements of literals on the list alone
  pub blame_has : (a : Answer) (D : List ℕ) → M.answer ls ≡ a → blame ls a ≡ Some D → (m : ℕ) → has D m ≡ true → has ls (complement m) ≡ true
  blame_has possible D e h m i = cc
  blame_has (impossible core) D e h m i =
      let is : D ≡ map (λ p. complement (slice_index ls p)) core = cc in
      blamed_has ls core m (rising_below (length ls) core (law.core_rises ls core proper e)) (subst (λ z. has z m ≡ true) is i)

-- where a trail is possible, and not with the complement of `l` too, the theory blames that complement
module _ (M : Meaning) (law : Lawful M) (t : List Entry) (l : ℕ) (proper : Proper M.claims (asserted t)) (denied : Proper M.claims (asserted t ++ complement l ∷ [])) where
  abbrev ls : List ℕ
  ls = asserted t ++ complement l ∷ []

  others_hold : (v : List ℤ) → All (λ m. M.Holds m v) (asserted t) → (ps : List ℕ) → All (λ p. p < length ls) ps
      → has (map (λ p. complement (slice_index ls p)) ps) l ≡ false → All (λ p. M.Holds (slice_index ls p) v) ps
  others_hold v hs [] a n = λ k d h. absurd (omega arith)
  others_hold v hs (p ∷ ps) a n =
      let b = or_parts (eqb (complement (slice_index ls p)) l) (has (map (λ p. complement (slice_index ls p)) ps) l) n in
      let in_ls : p < length ls = a 0 0 (omega arith) in
      let end : slice_index ls (length (asserted t)) ≡ complement l = get_or_push (asserted t) (complement l) 0 (length (asserted t)) refl in
      let not_end : p ≢ length (asserted t) = λ e. eqb-false (complement (slice_index ls p)) l b.0 (ap (λ (q : ℕ). complement (slice_index ls q)) e ∙ ap complement end ∙ twice l) in
      let before : p < length (asserted t) = omega (arith, length_push (asserted t) (complement l)) in
      let same : slice_index ls p ≡ slice_index (asserted t) p = get_or_append_left (asserted t) (complement l ∷ []) 0 p before in
      All-cons (λ p. M.Holds (slice_index ls p) v) p ps (subst (λ m. M.Holds m v) (sym same) (hs p 0 before))
      (others_hold v hs ps (λ k d i. a (suc k) d (omega (arith, i))) b.1)

  pub blame_own : M.answer (asserted t) ≡ possible → (a : Answer) (D : List ℕ) → M.answer ls ≡ a → blame ls a ≡ Some D → has D l ≡ true
  blame_own q possible D e h = cc
  blame_own q (impossible core) D e h =
      let is : map (λ p. complement (slice_index ls p)) core ≡ D = cc in
      let within = rising_below (length ls) core (law.core_rises ls core denied e) in
      subst (λ z. has z l ≡ true) is (true_from_ne_false (has (map (λ p. complement (slice_index ls p)) core) l)
      (λ n. law.core_fails ls core denied e (M.written (asserted t)) (law.possible_fit (asserted t) proper q)
      (others_hold (M.written (asserted t)) (law.possible_holds (asserted t) proper q) core within n)))
