-- Settling a row ends with the greatest fit, or with a core that no row keeps. Assumes nothing.
use Rattle.std.proofs.Common.{◌≡◌, ℕ, zero, suc, ◌+◌, ◌<◌, ◌≤◌, true, false, cond, eqb, ◌⊎◌, List, [], ◌∷◌, ◌++◌, length, get_or, set, ℤ, pos, ◌≤ℤ◌, ◌<ℤ◌, sym, refl, ap, ◌∙◌, subst, inl, inr, ⊎_elim, arith}
use lib.Signed.{lt_z}
use Rattle.std.proofs.lemmas.Int.{ints}
use Rattle.std.proofs.lemmas.Bool.{cases_eq, cond_both, eqb-true, eqb-false}
use Rattle.std.proofs.lemmas.List.{length-set, length_push, get_or_append_left, get_or_push}
use Rattle.theory.specs.Meaning.{num}
use Rattle.difference.specs.declared.bound.Bound.{Bound}
use Rattle.difference.specs.Bounds.{at, Each, Fit, Low, Greatest, Core, Named}
use Rattle.difference.specs.Settling.{limit, excess, worst, core, Outcome, turn, settle, fits, clash}
use Rattle.difference.proofs.Worst.{bounds, worst_is}
use Rattle.difference.proofs.Settling.{Settling, Moved, moved, settles_on, t_old}
use Rattle.difference.proofs.Cycle.{Stepped, Once, closes}

-- what an outcome has to say
abbrev pub Good : ℕ → List Bound → Outcome → Type 0
Good m bs (fits row) = Greatest m bs row
Good m bs (clash ps) = Core bs ps

-- ---- the terms that are not lowered yet

pub free : List ℤ → List ℤ → ℕ
free [] row = 0
free (o ∷ os) [] = 0
free (o ∷ os) (r ∷ rs) = cond (lt_z r o) 0 1 + free os rs

pub free_all : (old row : List ℤ) → free old row ≤ length old
unfolding free
free_all [] row = omega arith
free_all (o ∷ os) [] = omega arith
free_all (o ∷ os) (r ∷ rs) = let h : free os rs ≤ length os = free_all os rs in grind arith

pub free_set : (old row : List ℤ) (t : ℕ) (v : ℤ) → length row ≡ length old → t < length row → num row t ≡ num old t → v <ℤ num old t → free old (set row t v) + 1 ≡ free old row
unfolding free
free_set [] row t v l h e b = absurd (omega arith)
free_set (o ∷ os) [] t v l h e b = absurd (omega arith)
free_set (o ∷ os) (r ∷ rs) zero v l h e b =
    let x : lt_z v o ≡ true = grind (arith, ints) in
    let y : lt_z r o ≡ false = grind (arith, ints) in
    simp (x, y) (omega arith)
free_set (o ∷ os) (r ∷ rs) (suc t) v l h e b =
    let k : free os (set rs t v) + 1 ≡ free os rs = free_set os rs t v (omega arith) (omega arith) e b in
    omega (arith, k)

-- ---- one step

abbrev pub Led : List Bound → List ℕ → ℕ → ℕ → Type 0
Led bs steps k x = (i : ℕ) × (i < k) × ((at bs (get_or steps i 0)).term ≡ x)

pub record Going (m : ℕ) (bs : List Bound) (u : ℕ) (old row : List ℤ) (steps : List ℕ) (gap : ℤ) : Type 0 where
  pub long : length row ≡ m
  pub settling : Settling bs old row gap
  pub walk : (j : ℕ) → j < length steps → Stepped bs u old row steps j
  pub once : Once bs steps
  pub led : (x : ℕ) → (num row x ≡ num old x) ⊎ Led bs steps (length steps) x
  pub above : (f : List ℤ) → Fit m bs f → Low f → (x : ℕ) → x < m → num f x ≤ℤ num row x

-- what the old row is to the bounds
pub record Start (m : ℕ) (bs : List Bound) (u : ℕ) (old : List ℤ) : Type 0 where
  pub long : length old ≡ m
  pub low : Low old
  pub formed : Named m bs
  pub kept : Each (λ b. (b.base ≡ u) ⊎ (excess old b ≤ℤ pos 0)) bs
  pub above : (f : List ℤ) → Fit m bs f → Low f → (x : ℕ) → x < m → num f x ≤ℤ num old x

module _ (m : ℕ) (bs : List Bound) (u : ℕ) (old : List ℤ) (start : Start m bs u old)
    (row : List ℤ) (steps : List ℕ) (gap : ℤ) (g : Going m bs u old row steps gap)
    (p : ℕ) (e : ℤ) (within : p < length bs) (e_is : e ≡ excess row (at bs p)) (broken : pos 0 <ℤ e) where
  -- the base of a broken bound is u or was lowered before
  pub base_led : ((at bs p).base ≡ u) ⊎ Led bs steps (length steps) (at bs p).base
  base_led =
      ⊎_elim
      (λ b. ⊎_elim (λ k. inl k)
      (λ k. absurd (⊎_elim
      (λ t. omega (arith, ints, b, k, t))
      (λ t. omega (arith, ints, t))
      (g.settling.kept p within)))
      (start.kept p within))
      (λ i. inr i)
      (g.led (at bs p).base)

  module _ (most : Each (λ b. excess row b ≤ℤ e) bs) (t_free : (at bs p).term ≡ u → ⊥) where
    t_in : (at bs p).term < length row
    t_in = omega (arith, (start.formed p within).0, g.long)

    on_settling : Settling bs old (set row (at bs p).term (limit row (at bs p))) e
    on_settling = settles_on bs u old row gap g.settling start.kept p (at bs p).term (limit row (at bs p)) e within refl t_in t_free refl e_is broken most

    pub was_old : num row (at bs p).term ≡ num old (at bs p).term
    was_old = t_old bs u old row gap g.settling start.kept p (at bs p).term (limit row (at bs p)) e within refl t_in t_free refl e_is broken most

    moved_at : (x : ℕ) → Moved row (at bs p).term (limit row (at bs p)) x
    moved_at = moved row (at bs p).term (limit row (at bs p)) t_in

    on_above : (f : List ℤ) → Fit m bs f → Low f → (x : ℕ) → x < m → num f x ≤ℤ num (set row (at bs p).term (limit row (at bs p))) x
    on_above f fit low x h =
        ⊎_elim
        (λ y. let ef : num f x ≡ num f (at bs p).term = ap (num f) y.0 in
        omega (arith, ints, ef, y.1, fit.keeps p within, g.above f fit low (at bs p).base (start.formed p within).1))
        (λ y. omega (arith, ints, y.1, g.above f fit low x h))
        (moved_at x)

    -- a step that was made before
    earlier : (j : ℕ) → j < length steps → Stepped bs u old row steps j → Stepped bs u old (set row (at bs p).term (limit row (at bs p))) (steps ++ p ∷ []) j
    earlier j h s =
        let q : ℕ = get_or steps j 0 in
        let q_is : get_or (steps ++ p ∷ []) j 0 ≡ get_or steps j 0 = get_or_append_left steps (p ∷ []) 0 j h in
        let row' : List ℤ = set row (at bs p).term (limit row (at bs p)) in
        let same : num row' (at bs q).term ≡ num row (at bs q).term = ⊎_elim
        (λ y. absurd (let a : num row (at bs q).term ≡ num row (at bs p).term = ap (num row) y.0 in
        let b : num old (at bs q).term ≡ num old (at bs p).term = ap (num old) y.0 in
        omega (arith, ints, a, b, was_old, s.lowered)))
        (λ y. y.1) (moved_at (at bs q).term) in
        let base : num row' (at bs q).base ≤ℤ num row (at bs q).base = ⊎_elim
        (λ y. let a : num row (at bs q).base ≡ num row (at bs p).term = ap (num row) y.0 in
        omega (arith, ints, a, y.1, e_is, broken))
        (λ y. omega (arith, ints, y.1)) (moved_at (at bs q).base) in
        record {
          within = rw q_is s.within;
          tight = rw q_is (omega (arith, ints, s.tight, same, base));
          lowered = rw q_is (omega (arith, ints, s.lowered, same));
          off = rw q_is s.off;
          from = rw q_is (⊎_elim (λ k. inl k)
              (λ i. inr (i.0, i.1, ap (λ n. (at bs n).term) (get_or_append_left steps (p ∷ []) 0 i.0 (omega (arith, i.1, h))) ∙ i.2))
              s.from);
        }

    latest : Stepped bs u old (set row (at bs p).term (limit row (at bs p))) (steps ++ p ∷ []) (length steps)
    latest =
        let q_is : get_or (steps ++ p ∷ []) (length steps) 0 ≡ p = get_or_push steps p 0 (length steps) refl in
        let row' : List ℤ = set row (at bs p).term (limit row (at bs p)) in
        let here : num row' (at bs p).term ≡ limit row (at bs p) = ⊎_elim (λ y. y.1) (λ y. absurd (y.0 refl)) (moved_at (at bs p).term) in
        let tight : limit row' (at bs p) ≤ℤ num row' (at bs p).term = ⊎_elim
        (λ y. let a : num row (at bs p).base ≡ num row (at bs p).term = ap (num row) y.0 in omega (arith, ints, y.1, here, a, e_is, broken))
        (λ y. omega (arith, ints, y.1, here))
        (moved_at (at bs p).base) in
        record {
          within = rw q_is within;
          tight = rw q_is tight;
          lowered = rw q_is (omega (arith, ints, here, was_old, e_is, broken));
          off = rw q_is t_free;
          from = rw q_is (⊎_elim (λ k. inl k)
              (λ i. inr (i.0, i.1, ap (λ n. (at bs n).term) (get_or_append_left steps (p ∷ []) 0 i.0 i.1) ∙ i.2))
              base_led);
        }

    -- the new step's term was not lowered before
    again_once : Once bs (steps ++ p ∷ [])
    again_once i j l h =
        let more : length (steps ++ p ∷ []) ≡ length steps + 1 = length_push steps p in
        let first : get_or (steps ++ p ∷ []) i 0 ≡ get_or steps i 0 = get_or_append_left steps (p ∷ []) 0 i (omega (arith, l, h, more)) in
        ⊎_elim
        (λ e'. let q_is : get_or (steps ++ p ∷ []) j 0 ≡ p = get_or_push steps p 0 j (sym e') in
        let s : Stepped bs u old row steps i = g.walk i (omega (arith, l, e')) in
        rw (first, q_is) (λ same.
        let a : num row (at bs (get_or steps i 0)).term ≡ num row (at bs p).term = ap (num row) same in
        let b : num old (at bs (get_or steps i 0)).term ≡ num old (at bs p).term = ap (num old) same in
        omega (arith, ints, a, b, was_old, s.lowered)))
        (λ ne. let k : j < length steps = omega (arith, more, h, ne) in
        rw (first, get_or_append_left steps (p ∷ []) 0 j k) (g.once i j l k))
        (cases_eq j (length steps))

    pub going_on : Going m bs u old (set row (at bs p).term (limit row (at bs p))) (steps ++ p ∷ []) e
    going_on =
        let more : length (steps ++ p ∷ []) ≡ length steps + 1 = length_push steps p in
        record {
          long = length-set row (at bs p).term (limit row (at bs p)) ∙ g.long;
          settling = on_settling;
          walk = λ j h. ⊎_elim
              (λ e'. subst (λ n. Stepped bs u old (set row (at bs p).term (limit row (at bs p))) (steps ++ p ∷ []) n) (sym e') latest)
              (λ ne. let l : j < length steps = omega (arith, more, h, ne) in earlier j l (g.walk j l))
              (cases_eq j (length steps));
          once = again_once;
          led = λ x. ⊎_elim
              (λ y. inr (length steps, omega (arith, more), ap (λ n. (at bs n).term) (get_or_push steps p 0 (length steps) refl) ∙ sym y.0))
              (λ y. ⊎_elim
              (λ k. inl (y.1 ∙ k))
              (λ i. inr (i.0, omega (arith, more, i.1), ap (λ n. (at bs n).term) (get_or_append_left steps (p ∷ []) 0 i.0 i.1) ∙ i.2))
              (g.led x))
              (moved_at x);
          above = on_above;
        }

    pub fewer : free old (set row (at bs p).term (limit row (at bs p))) + 1 ≡ free old row
    fewer =
        free_set old row (at bs p).term (limit row (at bs p)) (g.long ∙ sym start.long) t_in was_old
        (omega (arith, ints, was_old, e_is, broken))

-- no bound that the row breaks has the term that is lowered next for its base
pub base_apart : (m : ℕ) (bs : List Bound) (u : ℕ) (old : List ℤ) (start : Start m bs u old) (row : List ℤ) (steps : List ℕ) (gap : ℤ) (g : Going m bs u old row steps gap)
    (x : ℕ) → (x ≡ u → ⊥) → num row x ≡ num old x → (q : ℕ) → q < length bs → pos 0 <ℤ excess row (at bs q) → (at bs q).base ≡ x → ⊥
base_apart m bs u old start row steps gap g x free same q l broken e =
    ⊎_elim
    (λ k. free (sym e ∙ k))
    (λ i. let s : Stepped bs u old row steps i.0 = g.walk i.0 i.1 in
    let a : num row (at bs (get_or steps i.0 0)).term ≡ num row x = ap (num row) (i.2 ∙ e) in
    let b : num old (at bs (get_or steps i.0 0)).term ≡ num old x = ap (num old) (i.2 ∙ e) in
    omega (arith, ints, a, b, same, s.lowered))
    (base_led m bs u old start row steps gap g q (excess row (at bs q)) l refl broken)

-- ---- to the end

module _ (m : ℕ) (bs : List Bound) (u : ℕ) (old : List ℤ) (start : Start m bs u old) where
  -- no bound is broken
  ends : (row : List ℤ) (steps : List ℕ) (gap : ℤ) → Going m bs u old row steps gap → lt_z (pos 0) (worst row bs).1 ≡ false → Greatest m bs row
  ends row steps gap g t =
      let none : (worst row bs).1 ≤ℤ pos 0 = grind (arith, ints) in
      record {
        fit = record { long = g.long; keeps = λ p h. omega (arith, ints, none, bounds row 0 (0, pos 0) bs p h) };
        low = λ x h. omega (arith, ints, g.settling.lower x, start.low x (omega (arith, h, g.long, start.long)));
        above = g.above;
      }

  -- the step would lower u
  stops : (row : List ℤ) (steps : List ℕ) (gap : ℤ) → Going m bs u old row steps gap → pos 0 <ℤ (worst row bs).1 → (at bs (worst row bs).0).term ≡ u → Core bs (core bs steps (worst row bs).0)
  stops row steps gap g b e =
      let w : _ = worst_is row bs b in
      closes bs u old row steps g.walk g.once (worst row bs).0 w.0 e (omega (arith, ints, w.1, b))
      (base_led m bs u old start row steps gap g (worst row bs).0 (worst row bs).1 w.0 w.1 b)

  pub settled : (k : ℕ) (row : List ℤ) (steps : List ℕ) (gap : ℤ) → Going m bs u old row steps gap → free old row < k → Good m bs (settle bs u k row steps)
  unfolding settle turn
  settled zero row steps gap g h = absurd (omega arith)
  settled (suc k) row steps gap g h =
      let w : ℕ × ℤ = worst row bs in
      let p : ℕ = (worst row bs).0 in
      let row' : List ℤ = set row (at bs p).term (limit row (at bs p)) in
      let rest : Outcome = settle bs u k row' (steps ++ p ∷ []) in
      let inner : Outcome = cond (eqb (at bs p).term u) (clash (core bs steps p)) rest in
      cond_both (lt_z (pos 0) w.1) inner (fits row) (Good m bs)
      (λ t. let b : pos 0 <ℤ (worst row bs).1 = grind (arith, ints) in
      let i : _ = worst_is row bs b in
      cond_both (eqb (at bs p).term u) (clash (core bs steps p)) rest (Good m bs)
      (λ e. stops row steps gap g b (eqb-true (at bs p).term u e))
      (λ ne. settled k row' (steps ++ p ∷ []) (worst row bs).1
      (going_on m bs u old start row steps gap g p (worst row bs).1 i.0 i.1 b (bounds row 0 (0, pos 0) bs) (eqb-false (at bs p).term u ne))
      (omega (arith, h, fewer m bs u old start row steps gap g p (worst row bs).1 i.0 i.1 b (bounds row 0 (0, pos 0) bs) (eqb-false (at bs p).term u ne)))))
      (λ t. ends row steps gap g t)
