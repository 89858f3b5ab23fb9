-- A loop back along the steps that marks a cycle. Assumes nothing.
use Rattle.std.proofs.Common.{◌≡◌, ℕ, zero, suc, ◌+◌, ◌-◌, ◌<◌, ◌≤◌, Bool, true, false, cond, ◌||◌, eqb, List, [], ◌∷◌, ◌++◌, length, get_or, set, take, sym, refl, ap, ◌∙◌, ⊎_elim, arith}
use Rattle.std.proofs.lemmas.List.{get_or-set_same, get_or-set_other, get_or_push, get_or-take, get_or_past, length_push, length-take-le, take-append-le, take-take, take_all}
use Rattle.std.specs.List.{AllByRecursion}
use Rattle.std.proofs.ByRecursion.{All-get_or}
use Rattle.std.proofs.lemmas.Bool.{cases_Bool, cases_eq, cases_lt, eq-eqb, ne_eqb}
use Rattle.theory.specs.Literals.{has}
use Rattle.theory.specs.Positions.{put, listed, marked}
use Rattle.theory.proofs.Positions.{all_has, listed_has}
use Rattle.difference.specs.declared.bound.Bound.{Bound}
use Rattle.difference.specs.Bounds.{at}
use Rattle.difference.specs.Settling.{lowers, back, around, core}

or_none : (a : Bool) → (a || false) ≡ a
or_none true = refl
or_none false = refl

or_all : (a : Bool) → (a || true) ≡ true
or_all true = refl
or_all false = refl

pub or_assoc : (a b c : Bool) → (a || (b || c)) ≡ ((a || b) || c)
or_assoc true b c = refl
or_assoc false b c = refl

-- one more mark
set_mark : (ms : List Bool) (i q : ℕ) → i < length ms → get_or (set ms i true) q false ≡ (get_or ms q false || eqb i q)
set_mark ms i q h =
    ⊎_elim
    (λ (e : q ≡ i). ap (λ k. get_or (set ms i true) k false) e ∙ get_or-set_same ms i true false h ∙ sym (ap (λ b. get_or ms q false || b) (eq-eqb i q (sym e)) ∙ or_all (get_or ms q false)))
    (λ (ne : q ≡ i → ⊥). get_or-set_other ms i q true false ne ∙ sym (ap (λ b. get_or ms q false || b) (ne_eqb i q (λ e. ne (sym e))) ∙ or_none (get_or ms q false)))
    (cases_eq q i)

back_more : (bs : List Bound) (steps : List ℕ) (k x : ℕ) → 0 < k → (c : Bool) → lowers bs steps (k - 1) x ≡ c
    → back bs steps k x ≡ put c (get_or steps (k - 1) 0) (back bs steps (k - 1) (cond c (at bs (get_or steps (k - 1) 0)).base x))
unfolding back
back_more bs steps zero x h c e = absurd (omega arith)
back_more bs steps (suc k) x h c e =
    ap (λ n. put (lowers bs steps n x) (get_or steps n 0) (back bs steps n (cond (lowers bs steps n x) (at bs (get_or steps n 0)).base x))) (let z : k ≡ suc k - 1 = omega arith in z)
    ∙ ap (λ b. put b (get_or steps (suc k - 1) 0) (back bs steps (suc k - 1) (cond b (at bs (get_or steps (suc k - 1) 0)).base x))) e

module _ (bs : List Bound) (steps : List ℕ) (k x : ℕ) (h : 0 < k) where
  -- a step that lowered x is marked
  pub back_then : (ms : List Bool) (q : ℕ) → (at bs (get_or steps (k - 1) 0)).term ≡ x → get_or steps (k - 1) 0 < length ms
      → (get_or ms q false || has (back bs steps k x) q) ≡ (get_or (set ms (get_or steps (k - 1) 0) true) q false || has (back bs steps (k - 1) (at bs (get_or steps (k - 1) 0)).base) q)
  back_then ms q e l =
      ap (λ ps. get_or ms q false || has ps q) (back_more bs steps k x h true (eq-eqb (at bs (get_or steps (k - 1) 0)).term x e))
      ∙ or_assoc (get_or ms q false) (eqb (get_or steps (k - 1) 0) q) (has (back bs steps (k - 1) (at bs (get_or steps (k - 1) 0)).base) q)
      ∙ ap (λ b. b || has (back bs steps (k - 1) (at bs (get_or steps (k - 1) 0)).base) q) (sym (set_mark ms (get_or steps (k - 1) 0) q l))

  pub back_else : (ms : List Bool) (q : ℕ) → ((at bs (get_or steps (k - 1) 0)).term ≡ x → ⊥)
      → (get_or ms q false || has (back bs steps k x) q) ≡ (get_or ms q false || has (back bs steps (k - 1) x) q)
  back_else ms q ne = ap (λ ps. get_or ms q false || has ps q) (back_more bs steps k x h false (ne_eqb (at bs (get_or steps (k - 1) 0)).term x ne))

pub back_end : (bs : List Bound) (steps : List ℕ) (k x : ℕ) (ms : List Bool) (q : ℕ) → k ≡ 0 → get_or ms q false ≡ (get_or ms q false || has (back bs steps k x) q)
unfolding back
back_end bs steps k x ms q e = sym (ap (λ n. get_or ms q false || has (back bs steps n x) q) e ∙ or_none (get_or ms q false))

-- ---- along the steps, the latest first

-- the steps before the latest
module _ (steps rest rest' : List ℕ) (s : ℕ) (split : rest ≡ rest' ++ s ∷ []) (front : rest ≡ take (length rest) steps) (within : length rest ≤ length steps) where
  pub some_left : 0 < length rest
  some_left = omega (arith, ap length split, length_push rest' s)

  pub one_less : length rest' ≡ length rest - 1
  one_less = omega (arith, ap length split, length_push rest' s)

  pub step_is : s ≡ get_or steps (length rest - 1) 0
  step_is =
      sym (get_or_push rest' s 0 (length rest') refl) ∙ ap (λ l. get_or l (length rest') 0) (sym split ∙ front) ∙ ap (λ k. get_or (take (length rest) steps) k 0) one_less
      ∙ get_or-take (length rest) steps (length rest - 1) 0 (omega (arith, some_left))

  pub front_less : rest' ≡ take (length rest') steps
  front_less =
      sym (take-append-le (length rest') rest' (s ∷ []) (omega arith) ∙ take_all (length rest') rest' (omega arith))
      ∙ ap (take (length rest')) (sym split ∙ front) ∙ take-take (length rest') (length rest) steps (omega (arith, one_less))

-- ---- the marks of a cycle, whatever stands past the bounds

back_within : (bs : List Bound) (steps : List ℕ) (n k x : ℕ) → AllByRecursion (λ q. q < n) steps → k ≤ length steps → AllByRecursion (λ q. q < n) (back bs steps k x)
unfolding back
back_within bs steps n zero x a l = tt
back_within bs steps n (suc k) x a l = go (lowers bs steps k x) (back_within bs steps n k (cond (lowers bs steps k x) (at bs (get_or steps k 0)).base x) a (omega (arith, l)))
  where
    go : (c : Bool) → AllByRecursion (λ q. q < n) (back bs steps k (cond c (at bs (get_or steps k 0)).base x)) → AllByRecursion (λ q. q < n) (put c (get_or steps k 0) (back bs steps k (cond c (at bs (get_or steps k 0)).base x)))
    go true h = (All-get_or (λ q. q < n) steps k 0 (omega (arith, l)) a, h)
    go false h = h

none_listed : (m low : ℕ) (g : ℕ → Bool) → ((q : ℕ) → low ≤ q → g q ≡ false) → listed low m g ≡ []
unfolding listed
none_listed zero low g h = refl
none_listed (suc m) low g h = ap (λ c. put c low (listed (low + 1) m g)) (h low (omega arith)) ∙ none_listed m (low + 1) g (λ q l. h q (omega (arith, l)))

listed_longer : (n m low : ℕ) (f g : ℕ → Bool) → n ≤ m → ((q : ℕ) → f q ≡ g q) → ((q : ℕ) → low + n ≤ q → g q ≡ false) → listed low n f ≡ listed low m g
unfolding listed
listed_longer zero m low f g l same none = sym (none_listed m low g (λ q h. none q (omega (arith, h))))
listed_longer (suc n) zero low f g l same none = absurd (omega (arith, l))
listed_longer (suc n) (suc m) low f g l same none =
    ap (λ c. put c low (listed (low + 1) n f)) (same low)
    ∙ ap (put (g low) low) (listed_longer n m (low + 1) f g (omega (arith, l)) same (λ q h. none q (omega (arith, h))))

-- a core is what is marked
pub core_marked : (bs : List Bound) (steps : List ℕ) (p : ℕ) (marks : List Bool) → p < length bs → AllByRecursion (λ q. q < length bs) steps → length bs ≤ length marks
    → ((q : ℕ) → get_or marks q false ≡ has (around bs steps p) q) → core bs steps p ≡ marked marks
core_marked bs steps p marks within positions long marks_are =
    listed_longer (length bs) (length marks) 0 (has (around bs steps p)) (λ q. get_or marks q false) long (λ q. sym (marks_are q))
    (λ q h. marks_are q ∙ ⊎_elim
    (λ t. absurd (let l : q < length bs = all_has (λ z. z < length bs) (around bs steps p) (within, back_within bs steps (length bs) (length steps) (at bs p).base positions (omega arith)) q t in omega (arith, l, h)))
    (λ f. f) (cases_Bool (has (around bs steps p) q)))

-- where no mark stands past the first n, those say it all
module _ (n : ℕ) (marks : List Bool) (few : n ≤ length marks) (within : (q : ℕ) → has (marked marks) q ≡ true → q < n) where
  none_past : (q : ℕ) → n ≤ q → get_or marks q false ≡ false
  none_past q h =
      ⊎_elim
      (λ l. ⊎_elim
      (λ t. absurd (let i : q < n = within q (listed_has 0 (length marks) (λ p. get_or marks p false) q (omega arith) (omega (arith, l)) t) in omega (arith, h, i)))
      (λ f. f) (cases_Bool (get_or marks q false)))
      (λ l. get_or_past marks q false (omega (arith, l)))
      (cases_lt q (length marks))

  same_front : (q : ℕ) → get_or (take n marks) q false ≡ get_or marks q false
  same_front q =
      ⊎_elim
      (λ l. get_or-take n marks q false l)
      (λ l. get_or_past (take n marks) q false (omega (arith, l, length-take-le n marks few)) ∙ sym (none_past q (omega (arith, l))))
      (cases_lt q n)

  pub marked_front : marked (take n marks) ≡ marked marks
  marked_front =
      ap (λ k. listed 0 k (λ q. get_or (take n marks) q false)) (length-take-le n marks few)
      ∙ listed_longer n (length marks) 0 (λ q. get_or (take n marks) q false) (λ q. get_or marks q false) few same_front (λ q h. none_past q (omega (arith, h)))
