-- The first clash of a list and its core, from the table of labels. Assumes nothing.
use Rattle.std.proofs.Common.{◌≡◌, ℕ, zero, suc, ◌+◌, ◌%◌, ◌<◌, ◌≤◌, Bool, true, false, not, ◌&&◌, ◌||◌, eqb, List, length, ltb, get_or, take, set, Some, None, Option, Ok, sym, refl, ap, ◌∙◌, subst, ⊎_elim, add-one, arith, get_or-take}
use Rattle.std.proofs.lemmas.Bool.{cases_eq, cases_Bool, and_parts, and_from, or_left, eqb-true, eq-eqb, ne_eqb, le-ltb, cond-false, true≢false}
use Rattle.std.proofs.lemmas.List.{length-set, length-take-le, get_or-set_same, get_or-set_other}
use Rattle.theory.specs.Calls.{Told, over}
use Rattle.theory.specs.declared.term.Term.{Term}
use Rattle.theory.specs.Positions.{listed, marked, marks_say, marks_leave}
use Rattle.theory.proofs.Positions.{listed_same}
use Rattle.congruence.specs.declared.claim.Claim.{Claim}
use Rattle.congruence.specs.declared.step.Step.{Step}
use Rattle.congruence.specs.declared.step.Reason.{Reason}
use Rattle.congruence.specs.declared.step.Reason.TheVariants.{Congruence, Asserted}
use Rattle.congruence.specs.Merges.{when, or_else, first, label, pair_of, log_of}
use Rattle.congruence.specs.Equality.{clashes, clash}
use Rattle.congruence.proofs.Searches.{found, when_some, any_in, any_from}
use Rattle.equality.specs.Logs.{step_at}
use Rattle.equality.specs.Marked.{Covered, Grown}
use Rattle.equality.specs.Asked.{asserted, covers}

-- ---- the first of several

pub first_none : {A : Type 0} (f : ℕ → Option A) → first 0 f ≡ None
unfolding first
first_none f = refl

pub first_more : {A : Type 0} (n : ℕ) (f : ℕ → Option A) → first n f ≡ None → f n ≡ None → first (n + 1) f ≡ None
unfolding first
first_more n f a b = ap (λ (k : ℕ). first k f) (add-one n) ∙ ap (λ o. or_else o (f n)) a ∙ b

pub first_hit : {A : Type 0} (n : ℕ) (f : ℕ → Option A) (k : ℕ) (x : A) → k < n → first k f ≡ None → f k ≡ Some x → first n f ≡ Some x
unfolding first
first_hit zero f k x h a b = absurd (omega arith)
first_hit (suc n) f k x h a b = ⊎_elim
    (λ (q : k ≡ n). ap (λ o. or_else o (f n)) (ap (λ (j : ℕ). first j f) (sym q) ∙ a) ∙ ap f (sym q) ∙ b)
    (λ (q : k ≡ n → ⊥). ap (λ o. or_else o (f n)) (first_hit n f k x (omega arith) a b))
    (cases_eq k n)

-- ---- the first clash

-- by labels
abbrev pub clash_by : (ℕ → ℕ) → List Claim → List ℕ → ℕ → Option ℕ
clash_by num claims ls p = when (clashes num claims (get_or ls p 0)) p

-- a clash is at a position of the list, and its two terms have one label
pub clash_at : (ts : List Term) (claims : List Claim) (ls : List ℕ) (d : ℕ) → clash ts claims ls ≡ Some d
    → (d < length ls) × (label (log_of ts claims ls) (pair_of claims (get_or ls d 0)).left ≡ label (log_of ts claims ls) (pair_of claims (get_or ls d 0)).right)
clash_at ts claims ls d e =
    let num = label (log_of ts claims ls) in
    let w = found (length ls) (clash_by num claims ls) d e in
    let x = when_some (clashes num claims (get_or ls w.0 0)) w.0 d w.2 in
    let y = and_parts (not (eqb (get_or ls w.0 0 % 2) 0)) _ x.0 in
    subst (λ (k : ℕ). (k < length ls) × (num (pair_of claims (get_or ls k 0)).left ≡ num (pair_of claims (get_or ls k 0)).right)) x.1
    (w.1, eqb-true _ _ y.1)

-- ---- cited positions

asserted_at : (r : Reason) (p : ℕ) → asserted r p ≡ true → r ≡ Asserted p
asserted_at Congruence p e = absurd (true≢false (sym e))
asserted_at (Asserted q) p e = ap Asserted (eqb-true q p e)

covers_covered : (ss : List Step) (ms : List Bool) (p : ℕ) → covers ss ms (length ss) p ≡ true → Covered ss ms p
covers_covered ss ms p e =
    let w = any_in (length ss) (λ j. get_or ms j false && asserted (step_at ss j).reason p) e in
    let x = and_parts (get_or ms w.0 false) (asserted (step_at ss w.0).reason p) w.2 in
    (w.0, w.1, x.0, asserted_at (step_at ss w.0).reason p x.1)

covered_covers : (ss : List Step) (ms : List Bool) (p : ℕ) → Covered ss ms p → covers ss ms (length ss) p ≡ true
covered_covers ss ms p c =
    any_from (length ss) (λ j. get_or ms j false && asserted (step_at ss j).reason p) c.0 c.1
    (and_from _ _ c.2 (ap (λ r. asserted r p) c.3 ∙ eq-eqb p p refl))

-- marks that grew from none cover just what passes the test
pub covers_test : (ts : List Term) (ss : List Step) (ms ns : List Bool) (test : ℕ → Bool) (p : ℕ) → ((k : ℕ) → get_or ms k false ≡ false)
    → Grown ts ss ms ns test → covers ss ns (length ss) p ≡ test p
covers_test ts ss ms ns test p clear g = ⊎_elim
    (λ (e : test p ≡ true). covered_covers ss ns p (g.all p e) ∙ sym e)
    (λ (e : test p ≡ false). ⊎_elim
    (λ (q : covers ss ns (length ss) p ≡ true). ⊎_elim
    (λ c. absurd (true≢false (sym c.2 ∙ clear c.0)))
    (λ t. absurd (true≢false (sym t ∙ e)))
    (g.only p (covers_covered ss ns p q)))
    (λ q. q ∙ sym e)
    (cases_Bool (covers ss ns (length ss) p)))
    (cases_Bool (test p))

-- the marked positions are those of the core
pub core_marked : (cited : List Bool) (d len : ℕ) (test : ℕ → Bool) → length cited ≡ 128 → len ≤ 128 → d < len → ((p : ℕ) → p < 128 → get_or cited p false ≡ test p)
    → marked (take len (set cited d true)) ≡ listed 0 len (λ p. eqb d p || test p)
core_marked cited d len test long few h each =
    ap (λ (n : ℕ). listed 0 n (λ p. get_or (take len (set cited d true)) p false)) size ∙ listed_same 0 len _ _ (λ p a b. get_or-take len (set cited d true) p false (omega arith) ∙ at p (omega arith))
  where
    size : length (take len (set cited d true)) ≡ len
    size = length-take-le len (set cited d true) (omega (arith, length-set cited d true))

    at : (p : ℕ) → p < len → get_or (set cited d true) p false ≡ (eqb d p || test p)
    at p k = ⊎_elim
        (λ (e : p ≡ d). ap (λ (n : ℕ). get_or (set cited d true) n false) e ∙ get_or-set_same cited d true false (omega arith) ∙ sym (or_left (eqb d p) (test p) (eq-eqb d p (sym e))))
        (λ (e : p ≡ d → ⊥). get_or-set_other cited d p true false e ∙ each p (omega arith) ∙ sym (ap (λ b. b || test p) (ne_eqb d p (λ q. e (sym q)))))
        (cases_eq p d)

-- a core that fits is put down
pub record PutDown (row : List ℕ) (r : Told ℕ) (old new : List ℕ) : Type 0 where
  pub told : r ≡ Ok (length row)
  pub place : new ≡ over row old

pub put_down : (marks : List Bool) (row : List ℕ) (r : Told ℕ) (old new : List ℕ) → r ≡ marks_say marks old → new ≡ marks_leave marks old → marked marks ≡ row → length marks ≤ 128 → length marks ≤ length old
    → PutDown row r old new
put_down marks row r old new a b e few fits =
    let past : ltb 128 (length marks) ≡ false = le-ltb 128 (length marks) few in
    let short : ltb (length old) (length marks) ≡ false = le-ltb (length old) (length marks) fits in
    record {
      told = a ∙ cond-false (ltb 128 (length marks)) _ _ past ∙ cond-false (ltb (length old) (length marks)) _ _ short ∙ ap (λ (l : List ℕ). Ok (length l)) e;
      place = b ∙ cond-false (ltb 128 (length marks)) _ _ past ∙ cond-false (ltb (length old) (length marks)) _ _ short ∙ ap (λ (l : List ℕ). over l old) e;
    }
