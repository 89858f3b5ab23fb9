-- The words of the rules, and the tests that decide them. Assumes nothing.
use Rattle.std.proofs.Common.{◌≡◌, ℕ, suc, ◌-◌, ◌<◌, ◌≤◌, Bool, true, false, cond, ◌||◌, eqb, ltb, ◌≢◌, ◌⊎◌, List, [], ◌∷◌, ◌++◌, length, slice_get, get_or, Some, None, inl, inr, refl, sym, ap, ◌∙◌, subst, ⊎_elim, arith}
use Rattle.std.proofs.lemmas.Bool.{both_ways, cases_lt, or_cases, or_parts, and_parts, and_cases, eqb-true, eqb-false, eq-eqb, le-ltb, lt-ltb, ltb-false}
use Rattle.std.proofs.lemmas.List.{get_or_past}
use Rattle.std.proofs.lemmas.List.Elements.{All-from_recursion}
use Rattle.std.proofs.lemmas.Option.{get_or_from_slice_get, slice_get-get_or, slice_get_within}
use Rattle.std.specs.List.{All, AllByRecursion, Contains, list_all, list_any}
use Rattle.theory.specs.Literals.{complement, has, names}
use Rattle.theory.specs.Meaning.{Answer, possible, impossible, Meaning, Rising}
use Rattle.theory.proofs.Positions.{listed_rises}
use Rattle.rules.specs.declared.entry.Reason.{Reason}
use Rattle.rules.specs.declared.entry.Reason.TheVariants.{Decided, Clause, Theory}
use Rattle.rules.specs.declared.entry.Entry.{Entry}
use Rattle.rules.specs.Clauses.{set_of}
use Rattle.rules.specs.States.{State, literals, level}
use Rattle.rules.specs.Moves.{FalseOn, ClaimOn, At, Live, of_book, learned, NotLive, IsReason, FalseAll, FalseBut, SomeTrue, SetOf, blamed, denying, Explained, by_clause, by_theory}
use Rattle.rules.specs.Rules.{true_on, false_on, false_but, is_clause, is_reason, live_in, blame, is_possible, theory_blames, explained}
use Rattle.rules.proofs.Lists.{contains, contained, has_here, has_later, has_cases, list_all_has, list_any_has, list_any_not}
use Rattle.rules.proofs.Clauses.{set_has, set_only}

-- ---- what a list has

pub lacks : (ls : List ℕ) (x : ℕ) → has ls x ≡ false → Contains ls x → ⊥
lacks ls x n c = both_ways (has ls x) n (contained ls x c)

-- a literal that fails a test of all
pub list_all_not : (test : ℕ → Bool) (xs : List ℕ) → list_all test xs ≡ false → (x : ℕ) × Contains xs x × (test x ≡ false)
list_all_not test [] h = absurd (both_ways true h refl)
list_all_not test (y ∷ ys) h =
    ⊎_elim (λ e. (y, (0, omega arith, refl), e)) (λ e. let r = list_all_not test ys e in (r.0, (suc r.1.0, omega (arith, r.1.1), r.1.2), r.2))
    (and_cases (test y) (list_all test ys) h)

-- ---- literals on a trail

pub claim_on : (t : List Entry) (l : ℕ) → names (literals t) l ≡ true → ClaimOn t l
claim_on t l h =
    ⊎_elim (λ e. inl (contains (literals t) l e)) (λ e. inr (contains (literals t) (complement l) e))
    (or_cases (has (literals t) l) (has (literals t) (complement l)) h)

pub claim_off : (t : List Entry) (l : ℕ) → names (literals t) l ≡ false → ClaimOn t l → ⊥
claim_off t l h =
    let b = or_parts (has (literals t) l) (has (literals t) (complement l)) h in
    ⊎_elim (λ c. lacks (literals t) l b.0 c) (λ c. lacks (literals t) (complement l) b.1 c)

pub false_all : (t : List Entry) (R : List ℕ) → list_all (false_on t) R ≡ true → FalseAll t R
false_all t R h m c = contains (literals t) (complement m) (list_all_has (false_on t) R m h (contained R m c))

pub not_false_all : (t : List Entry) (R : List ℕ) → list_all (false_on t) R ≡ false → (m : ℕ) × Contains R m × (FalseOn t m → ⊥)
not_false_all t R h = let r = list_all_not (false_on t) R h in (r.0, r.1, lacks (literals t) (complement r.0) r.2)

pub all_but : (t : List Entry) (l : ℕ) (R : List ℕ) → ((m : ℕ) → has R m ≡ true → m ≢ l → false_on t m ≡ true) → FalseBut t l R
all_but t l R f m c n = contains (literals t) (complement m) (f m (contained R m c) n)

pub not_all_but : (t : List Entry) (l : ℕ) (R : List ℕ) → false_but t l R ≡ false → (m : ℕ) × Contains R m × (m ≢ l) × (FalseOn t m → ⊥)
not_all_but t l R h =
    let r = list_all_not (λ m. eqb m l || false_on t m) R h in
    let b = or_parts (eqb r.0 l) (false_on t r.0) r.2 in
    (r.0, r.1, eqb-false r.0 l b.0, lacks (literals t) (complement r.0) b.1)

pub some_true : (t : List Entry) (R : List ℕ) → list_any (true_on t) R ≡ true → SomeTrue t R
some_true t R h = let r = list_any_has (true_on t) R h in (r.0, contains R r.0 r.1, contains (literals t) r.0 r.2)

pub none_true : (t : List Entry) (R : List ℕ) → list_any (true_on t) R ≡ false → SomeTrue t R → ⊥
none_true t R h s = lacks (literals t) s.0 (list_any_not (true_on t) R h s.0 (contained R s.0 s.1)) s.2

pub all_some_true : (t : List Entry) (book : List (List ℕ)) → list_all (list_any (true_on t)) book ≡ true → All (SomeTrue t) book
all_some_true t book h = All-from_recursion (SomeTrue t) book (go book h)
  where
    go : (cs : List (List ℕ)) → list_all (list_any (true_on t)) cs ≡ true → AllByRecursion (SomeTrue t) cs
    go [] h = tt
    go (c ∷ cs) h = let b = and_parts (list_any (true_on t) c) (list_all (list_any (true_on t)) cs) h in (some_true t c b.0, go cs b.1)

-- ---- entries of a trail

pub at_here : (e : Entry) (t : List Entry) → At (e ∷ t) e t
at_here e t = ([], refl)

pub at_later : (d : Entry) (t : List Entry) (e : Entry) (b : List Entry) → At t e b → At (d ∷ t) e b
at_later d t e b a = (d ∷ a.0, ap (λ (z : List Entry). d ∷ z) a.1)

pub at_none : (e : Entry) (b : List Entry) → At [] e b → ⊥
at_none e b a = go a.0 a.1
  where
    go : (later : List Entry) → [] ≡ later ++ e ∷ b → ⊥
    go [] q = cc
    go (c ∷ later) q = cc

pub at_cases : (d : Entry) (t : List Entry) (e : Entry) (b : List Entry) → At (d ∷ t) e b → ((d ≡ e) × (t ≡ b)) ⊎ At t e b
at_cases d t e b a = go a.0 a.1
  where
    go : (later : List Entry) → d ∷ t ≡ later ++ e ∷ b → ((d ≡ e) × (t ≡ b)) ⊎ At t e b
    go [] q = inl (cc, cc)
    go (c ∷ later) q = inr (later, cc)

pub on_at : (t : List Entry) (x : ℕ) → has (literals t) x ≡ true → (e : Entry) × (b : List Entry) × At t e b × (e.literal ≡ x)
on_at [] x h = absurd (both_ways false refl h)
on_at (d ∷ t) x h =
    ⊎_elim (λ (q : d.literal ≡ x). (d, t, at_here d t, q)) (λ j. let r = on_at t x j in (r.0, r.1, at_later d t r.0 r.1 r.2, r.3)) (has_cases d.literal (literals t) x h)

pub at_shorter : (t : List Entry) (e : Entry) (b : List Entry) → At t e b → length b < length t
at_shorter [] e b a = absurd (at_none e b a)
at_shorter (d ∷ t) e b a = ⊎_elim (λ (q : (d ≡ e) × (t ≡ b)). let z = ap length q.1 in omega (arith, z)) (λ r. omega (arith, at_shorter t e b r)) (at_cases d t e b a)

pub at_level : (t : List Entry) (e : Entry) (b : List Entry) → At t e b → level (e ∷ b) ≤ level t
at_level [] e b a = absurd (at_none e b a)
at_level (d ∷ t) e b a =
    ⊎_elim (λ (q : (d ≡ e) × (t ≡ b)). let z : level (d ∷ t) ≡ level (e ∷ b) = cc in omega (arith, z)) (λ r. omega (arith, at_level t e b r)) (at_cases d t e b a)

-- of two entries, they are one, or the one stands before the other
pub at_compare : (t : List Entry) (e : Entry) (b : List Entry) (d : Entry) (c : List Entry) → At t e b → At t d c → ((e ≡ d) × (b ≡ c)) ⊎ (At b d c ⊎ At c e b)
at_compare [] e b d c x y = absurd (at_none e b x)
at_compare (f ∷ t) e b d c x y =
    ⊎_elim
    (λ (p : (f ≡ e) × (t ≡ b)).
    ⊎_elim (λ (q : (f ≡ d) × (t ≡ c)). inl (sym p.0 ∙ q.0, sym p.1 ∙ q.1)) (λ (r : At t d c). inr (inl (subst (λ (z : List Entry). At z d c) p.1 r))) (at_cases f t d c y))
    (λ (p : At t e b).
    ⊎_elim (λ (q : (f ≡ d) × (t ≡ c)). inr (inr (subst (λ (z : List Entry). At z e b) q.1 p))) (λ (r : At t d c). at_compare t e b d c p r) (at_cases f t d c y))
    (at_cases f t e b x)

pub is_reason_from : (c : ℕ) (t : List Entry) → is_reason c t ≡ true → IsReason t c
is_reason_from c [] h = absurd (both_ways false refl h)
is_reason_from c (d ∷ t) h =
    ⊎_elim (λ q. (d, t, at_here d t, is_clause_from d.reason q)) (λ q. let r = is_reason_from c t q in (r.0, r.1, at_later d t r.0 r.1 r.2, r.3))
    (or_cases (is_clause c d.reason) (is_reason c t) h)
  where
    is_clause_from : (r : Reason) → is_clause c r ≡ true → r ≡ Clause c
    is_clause_from Decided h = absurd (both_ways false refl h)
    is_clause_from (Clause b) h = ap Clause (eqb-true b c h)
    is_clause_from Theory h = absurd (both_ways false refl h)

pub no_reason : (c : ℕ) (t : List Entry) → is_reason c t ≡ false → IsReason t c → ⊥
no_reason c t h r = go t h r.1 r.2
  where
    e : Entry
    e = r.0

    go : (t : List Entry) → is_reason c t ≡ false → (b : List Entry) → At t e b → ⊥
    go [] h b a = at_none e b a
    go (d ∷ t) h b a =
        let p = or_parts (is_clause c d.reason) (is_reason c t) h in
        ⊎_elim
        (λ (q : (d ≡ e) × (t ≡ b)).
        let z : d.reason ≡ Clause c = ap (λ (w : Entry). w.reason) q.0 ∙ r.3 in
        both_ways (is_clause c d.reason) p.0 (ap (is_clause c) z ∙ eq-eqb c c refl))
        (λ x. go t p.1 b x) (at_cases d t e b a)

-- ---- live clauses

pub live_from : (s : State) (c : ℕ) (R : List ℕ) → live_in s c ≡ Some R → Live s c R
live_from s c R h = go (ltb c 512) refl h
  where
    go : (b : Bool) → ltb c 512 ≡ b → cond b (slice_get s.book c) (get_or s.learned (c - 512) None) ≡ Some R → Live s c R
    go true q h = of_book h
    go false q h =
        let low : 512 ≤ c = ltb-false c 512 q in
        ⊎_elim
        (λ (i : c - 512 < length s.learned). learned (c - 512) (omega arith) (slice_get-get_or s.learned (c - 512) None i ∙ ap Some h))
        (λ (i : length s.learned ≤ c - 512). let z = get_or_past s.learned (c - 512) None i in absurd (cc))
        (cases_lt (c - 512) (length s.learned))

module _ (s : State) (few : length s.book ≤ 512) where
  pub live_to : (c : ℕ) (R : List ℕ) → Live s c R → live_in s c ≡ Some R
  live_to c R (of_book h) = rw (lt-ltb c 512 (omega (arith, few, slice_get_within s.book c R h))) h
  live_to c R (learned p e h) =
      let z : c - 512 ≡ p = omega arith in
      rw (le-ltb c 512 (omega arith), z) (get_or_from_slice_get s.learned p (Some R) None h)

  pub none_live : (c : ℕ) → live_in s c ≡ None → NotLive s c
  none_live c n R h = let z = live_to c R h in absurd (cc)

  pub live_same : (c : ℕ) (R D : List ℕ) → Live s c R → Live s c D → R ≡ D
  live_same c R D x y = let p = live_to c R x in let q = live_to c D y in cc

-- ---- what the theory says

pub impossible_from : (a : Answer) → is_possible a ≡ false → (core : List ℕ) × (a ≡ impossible core)
impossible_from possible h = absurd (both_ways true h refl)
impossible_from (impossible core) h = (core, refl)

pub blamed_from : (ls : List ℕ) (a : Answer) (R : List ℕ) → blame ls a ≡ Some R → (core : List ℕ) × (a ≡ impossible core) × (R ≡ blamed ls core)
blamed_from ls possible R h = absurd (cc)
blamed_from ls (impossible core) R h = (core, refl, cc)

pub not_blamed : (ls : List ℕ) (a : Answer) → blame ls a ≡ None → a ≡ possible
not_blamed ls possible h = refl
not_blamed ls (impossible core) h = absurd (cc)

-- the clause that explains an entry
pub explained_from : (M : Meaning) (s : State) (e : Entry) (before : List Entry) (R : List ℕ)
    → explained (theory_blames M) (live_in s) e.reason e.literal before ≡ Some R → Explained M s e before R
explained_from M s e before R h = go e.reason refl h
  where
    go : (r : Reason) → e.reason ≡ r → explained (theory_blames M) (live_in s) r e.literal before ≡ Some R → Explained M s e before R
    go Decided q h = absurd (cc)
    go (Clause c) q h = by_clause c q (live_from s c R h)
    go Theory q h = let ls : List ℕ = denying before e.literal in let b = blamed_from ls (M.answer ls) R h in by_theory b.0 q b.1 b.2

-- ---- sets

pub set_is : (Has : ℕ → Type 0) (test : ℕ → Bool) → ((m : ℕ) → Has m → (m < 256) × (test m ≡ true)) → ((m : ℕ) → test m ≡ true → Has m) → SetOf Has (set_of test)
set_is Has test to from = record {
  rises = listed_rises 256 test;
  all = λ m h. let t = to m h in contains (set_of test) m (set_has test m t.0 ∙ t.1);
  only = λ m c. from m (set_only test m (contained (set_of test) m c));
}

rises_rest : (p : ℕ) (ps : List ℕ) → Rising 256 (p ∷ ps) → Rising 256 ps
rises_rest p [] r = tt
rises_rest p (q ∷ ps) r = r.1

rises_above : (p : ℕ) (ps : List ℕ) → Rising 256 (p ∷ ps) → (x : ℕ) → has ps x ≡ true → p < x
rises_above p [] r x h = absurd (both_ways false refl h)
rises_above p (q ∷ ps) r x h =
    ⊎_elim (λ (e : q ≡ x). omega (arith, r.0)) (λ i. omega (arith, r.0, rises_above q ps r.1 x i)) (has_cases q ps x h)

-- a rising list is known by what it has
rising_same : (C D : List ℕ) → Rising 256 C → Rising 256 D → ((x : ℕ) → has C x ≡ true → has D x ≡ true) → ((x : ℕ) → has D x ≡ true → has C x ≡ true) → C ≡ D
rising_same [] [] r s f g = refl
rising_same [] (q ∷ D) r s f g = absurd (both_ways false refl (g q (has_here q D q refl)))
rising_same (p ∷ C) [] r s f g = absurd (both_ways false refl (f p (has_here p C p refl)))
rising_same (p ∷ C) (q ∷ D) r s f g =
    let lows : p ≡ q =
    ⊎_elim (λ (e : q ≡ p). sym e)
    (λ i. ⊎_elim (λ (e : p ≡ q). e) (λ j. let a = rises_above q D s p i in let b = rises_above p C r q j in absurd (omega arith)) (has_cases p C q (g q (has_here q D q refl))))
    (has_cases q D p (f p (has_here p C p refl))) in
    let to : (x : ℕ) → has C x ≡ true → has D x ≡ true = λ x i.
    let a = rises_above p C r x i in
    ⊎_elim (λ (e : q ≡ x). absurd (omega arith)) (λ j. j) (has_cases q D x (f x (has_later p C x i))) in
    let from : (x : ℕ) → has D x ≡ true → has C x ≡ true = λ x i.
    let a = rises_above q D s x i in
    ⊎_elim (λ (e : p ≡ x). absurd (omega arith)) (λ j. j) (has_cases p C x (g x (has_later q D x i))) in
    let rest : C ≡ D = rising_same C D (rises_rest p C r) (rises_rest q D s) to from in
    cc

pub set_same : (Has : ℕ → Type 0) (C D : List ℕ) → SetOf Has C → SetOf Has D → C ≡ D
set_same Has C D x y =
    rising_same C D x.rises y.rises (λ m h. contained D m (y.all m (x.only m (contains C m h)))) (λ m h. contained C m (x.all m (y.only m (contains D m h))))
