-- Cycles of bounds: a negative one is kept by no row, and the steps that led to a bound that would lower u make one.
-- Assumes nothing.
use Rattle.std.proofs.Common.{◌≡◌, ℕ, zero, suc, ◌<◌, ◌≤◌, Bool, true, false, cond, eqb, ◌⊎◌, List, [], ◌∷◌, map, length, get_or, ℤ, pos, ◌+ℤ◌, ◌-ℤ◌, ◌≤ℤ◌, ◌<ℤ◌, sym, refl, ap, ◌∙◌, inl, inr, ⊎_elim, arith}
use Rattle.std.proofs.lemmas.Int.{ints}
use Rattle.std.proofs.lemmas.Bool.{cases_eq, cases_Bool, eqb-true, eqb-false, or_cases, true≢false}
use Rattle.std.specs.List.{AllByRecursion}
use Rattle.theory.specs.Literals.{has}
use Rattle.theory.specs.Positions.{put}
use Rattle.theory.proofs.Positions.{all_has, listed_rises, listed_has, listed_only}
use Rattle.theory.specs.Meaning.{num}
use Rattle.difference.specs.declared.bound.Bound.{Bound}
use Rattle.difference.specs.Bounds.{at, Keeps, Leads, total, Distinct, NegativeCycle, Core}
use Rattle.difference.specs.Settling.{limit, excess, lowers, back, around, core}

same_tests : (a b : Bool) → (a ≡ true → b ≡ true) → (b ≡ true → a ≡ true) → a ≡ b
same_tests true b f g = sym (f refl)
same_tests false true f g = g refl
same_tests false false f g = refl

-- ---- a way along bounds

pub leads_within : (bs : List Bound) (x : ℕ) (ps : List ℕ) (y : ℕ) → Leads bs x ps y → AllByRecursion (λ p. p < length bs) ps
leads_within bs x [] y w = tt
leads_within bs x (p ∷ ps) y w = (w.0, leads_within bs (at bs p).base ps y w.2)

-- a row that keeps the bounds of a way keeps their sum
pub leads_sum : (bs : List Bound) (f : List ℤ) (x : ℕ) (ps : List ℕ) (y : ℕ) → Leads bs x ps y → AllByRecursion (λ p. Keeps f (at bs p)) ps → (num f x -ℤ num f y) ≤ℤ total bs ps
leads_sum bs f x [] y w a = let e : num f x ≡ num f y = ap (num f) w in omega (arith, ints)
leads_sum bs f x (p ∷ ps) y w a =
    let e : num f (at bs p).term ≡ num f x = ap (num f) w.1 in
    omega (arith, ints, a.0, leads_sum bs f (at bs p).base ps y w.2 a.1, e)

pub cycle_fails : (bs : List Bound) (ps : List ℕ) (f : List ℤ) → NegativeCycle bs ps → AllByRecursion (λ p. Keeps f (at bs p)) ps → ⊥
cycle_fails bs ps f c a = omega (arith, ints, c.negative, leads_sum bs f c.start ps c.start c.closed a)

-- ---- back along the steps

-- a step lowered its term, which is not u, to what its bound allowed, and its base is u or was lowered by an earlier step
pub record Stepped (bs : List Bound) (u : ℕ) (old row : List ℤ) (steps : List ℕ) (j : ℕ) : Type 0 where
  pub within : get_or steps j 0 < length bs
  pub tight : limit row (at bs (get_or steps j 0)) ≤ℤ num row (at bs (get_or steps j 0)).term
  pub lowered : num row (at bs (get_or steps j 0)).term <ℤ num old (at bs (get_or steps j 0)).term
  pub off : (at bs (get_or steps j 0)).term ≡ u → ⊥
  pub from : ((at bs (get_or steps j 0)).base ≡ u) ⊎ ((i : ℕ) × (i < j) × ((at bs (get_or steps i 0)).term ≡ (at bs (get_or steps j 0)).base))

-- no term is lowered twice
abbrev pub Once : List Bound → List ℕ → Type 0
Once bs steps = (i j : ℕ) → i < j → j < length steps → (at bs (get_or steps i 0)).term ≡ (at bs (get_or steps j 0)).term → ⊥

abbrev terms : List Bound → List ℕ → List ℕ
terms bs ps = map (λ p. (at bs p).term) ps

module _ (bs : List Bound) (u : ℕ) (old row : List ℤ) (steps : List ℕ)
    (walk : (j : ℕ) → j < length steps → Stepped bs u old row steps j) (once : Once bs steps) where
  abbrev Led : ℕ → ℕ → Type 0
  Led k x = (x ≡ u) ⊎ ((i : ℕ) × (i < k) × ((at bs (get_or steps i 0)).term ≡ x))

  -- the way back leads to u, and its sum is no more than the row's difference
  record Back (x : ℕ) (ps : List ℕ) : Type 0 where
    pub leads : Leads bs x ps u
    pub sum : (total bs ps +ℤ num row u) ≤ℤ num row x

  backs : (k x : ℕ) → k ≤ length steps → Led k x → Back x (back bs steps k x)
  unfolding back
  backs zero x l led =
      ⊎_elim
      (λ e. record { leads = e; sum = let r : num row x ≡ num row u = ap (num row) e in omega (arith, ints) })
      (λ i. absurd (omega (arith, i.1))) led
  backs (suc k) x l led = go (λ z w. backs k z (omega arith) w) (lowers bs steps k x) refl
    where
      go : ((z : ℕ) → Led k z → Back z (back bs steps k z)) → (c : Bool) → lowers bs steps k x ≡ c
          → Back x (put c (get_or steps k 0) (back bs steps k (cond c (at bs (get_or steps k 0)).base x)))
      go again true h =
          let s : Stepped bs u old row steps k = walk k (omega arith) in
          let e : (at bs (get_or steps k 0)).term ≡ x = eqb-true (at bs (get_or steps k 0)).term x h in
          let r : num row (at bs (get_or steps k 0)).term ≡ num row x = ap (num row) e in
          let w : Back (at bs (get_or steps k 0)).base (back bs steps k (at bs (get_or steps k 0)).base) = again (at bs (get_or steps k 0)).base s.from in
          record { leads = (s.within, e, w.leads); sum = omega (arith, ints, s.tight, w.sum, r) }
      go again false h =
          again x (⊎_elim (λ e. inl e)
          (λ i. inr (
            i.0,
            ⊎_elim
                (λ e. absurd (eqb-false (at bs (get_or steps k 0)).term x h (ap (λ n. (at bs (get_or steps n 0)).term) (sym e) ∙ i.2)))
                (λ ne. omega (arith, i.1, ne))
                (cases_eq i.0 k),
            i.2,
          )) led)

  -- the terms of the way back were lowered by its steps
  back_lowered : (k x y : ℕ) → has (terms bs (back bs steps k x)) y ≡ true → (i : ℕ) × (i < k) × ((at bs (get_or steps i 0)).term ≡ y)
  unfolding back
  back_lowered zero x y h = absurd (true≢false (sym h))
  back_lowered (suc k) x y h = go (λ z g. let w = back_lowered k z y g in (w.0, omega (arith, w.1), w.2)) (lowers bs steps k x) h
    where
      go : ((z : ℕ) → has (terms bs (back bs steps k z)) y ≡ true → (i : ℕ) × (i < suc k) × ((at bs (get_or steps i 0)).term ≡ y)) → (c : Bool)
          → has (terms bs (put c (get_or steps k 0) (back bs steps k (cond c (at bs (get_or steps k 0)).base x)))) y ≡ true → (i : ℕ) × (i < suc k) × ((at bs (get_or steps i 0)).term ≡ y)
      go more true h =
          ⊎_elim (λ e. (k, omega arith, eqb-true (at bs (get_or steps k 0)).term y e)) (more (at bs (get_or steps k 0)).base)
          (or_cases (eqb (at bs (get_or steps k 0)).term y) (has (terms bs (back bs steps k (at bs (get_or steps k 0)).base)) y) h)
      go more false h = more x h

  lowered_not : (k x y : ℕ) → ((i : ℕ) → i < k → (at bs (get_or steps i 0)).term ≡ y → ⊥) → has (terms bs (back bs steps k x)) y ≡ false
  lowered_not k x y none =
      ⊎_elim (λ h. let w = back_lowered k x y h in absurd (none w.0 w.1 w.2)) (λ h. h)
      (cases_Bool (has (terms bs (back bs steps k x)) y))

  back_distinct : (k x : ℕ) → k ≤ length steps → Distinct (terms bs (back bs steps k x))
  unfolding back
  back_distinct zero x l = tt
  back_distinct (suc k) x l = go (λ z. back_distinct k z (omega arith)) (lowers bs steps k x)
    where
      go : ((z : ℕ) → Distinct (terms bs (back bs steps k z))) → (c : Bool)
          → Distinct (terms bs (put c (get_or steps k 0) (back bs steps k (cond c (at bs (get_or steps k 0)).base x))))
      go again true = (
        lowered_not k (at bs (get_or steps k 0)).base (at bs (get_or steps k 0)).term (λ i h. once i k h (omega arith)),
        again (at bs (get_or steps k 0)).base,
      )
      go again false = again x

  -- the bound at p would lower u, and its base is u or was lowered
  pub closes : (p : ℕ) → p < length bs → (at bs p).term ≡ u → pos 0 <ℤ excess row (at bs p)
      → ((at bs p).base ≡ u) ⊎ ((i : ℕ) × (i < length steps) × ((at bs (get_or steps i 0)).term ≡ (at bs p).base)) → Core bs (core bs steps p)
  closes p within e broken led =
      let w : Back (at bs p).base (back bs steps (length steps) (at bs p).base) = backs (length steps) (at bs p).base (omega arith) led in
      let r : num row (at bs p).term ≡ num row u = ap (num row) e in
      let closed : Leads bs u (around bs steps p) u = (within, e, w.leads) in
      record {
        rises = listed_rises (length bs) (has (around bs steps p));
        around = around bs steps p;
        cycle = record {
          start = u;
          closed = closed;
          simple = (lowered_not (length steps) (at bs p).base (at bs p).term (λ i h same. (walk i h).off (same ∙ e)), back_distinct (length steps) (at bs p).base (omega arith));
          negative = omega (arith, ints, w.sum, broken, r);
        };
        same = λ q. same_tests (has (core bs steps p) q) (has (around bs steps p) q)
            (listed_only 0 (length bs) (has (around bs steps p)) q)
            (λ h. listed_has 0 (length bs) (has (around bs steps p)) q (omega arith)
            (let l : q < length bs = all_has (λ z. z < length bs) (around bs steps p) (leads_within bs u (around bs steps p) u closed) q h in omega arith) h);
      }
