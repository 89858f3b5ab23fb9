-- The outcome of a list of bounds, one after another. Assumes nothing.
use Rattle.std.proofs.Common.{◌≡◌, ℕ, zero, suc, ◌+◌, ◌<◌, ◌≤◌, ◌⊎◌, List, [], ◌∷◌, ◌++◌, map, length, replicate, ℤ, pos, ◌+ℤ◌, ◌≤ℤ◌, ◌<ℤ◌, sym, refl, ap, ◌∙◌, subst, inl, inr, ⊎_elim, append_assoc, append-nil, arith}
use Rattle.std.proofs.lemmas.Int.{ints}
use Rattle.std.proofs.lemmas.Bool.{cases_eq}
use Rattle.std.proofs.lemmas.List.{length_push, length-append, length-replicate, get_or_append_left, get_or_push}
use Rattle.std.specs.List.{AllByRecursion}
use Rattle.std.specs.Int.Signed.{≤ℤ_refl}
use Rattle.theory.specs.Meaning.{Rising, num}
use Rattle.difference.specs.declared.bound.Bound.{Bound}
use Rattle.difference.specs.Bounds.{Leads, total, Distinct, NegativeCycle, no_bound, at, Each, Keeps, Greatest, Core, Named}
use Rattle.difference.specs.Settling.{limit, excess, worst, Outcome, add, outcome_from, outcome, fits, clash}
use Rattle.difference.proofs.Worst.{bounds}
use Rattle.difference.proofs.Cycle.{leads_within}
use Rattle.difference.proofs.Outcome.{Good, Start, Going, free_all, settled}

-- ---- a list with one more bound

at_left : (seen : List Bound) (b : Bound) (p : ℕ) → p < length seen → at (seen ++ b ∷ []) p ≡ at seen p
at_left seen b p h = get_or_append_left seen (b ∷ []) no_bound p h

at_last : (seen : List Bound) (b : Bound) → at (seen ++ b ∷ []) (length seen) ≡ b
at_last seen b = get_or_push seen b no_bound (length seen) refl

-- what holds of each bound of the longer list
pub each_push : (P : Bound → Type 0) (seen : List Bound) (b : Bound) → Each P seen → P b → Each P (seen ++ b ∷ [])
each_push P seen b h k p l =
    ⊎_elim
    (λ e. subst P (sym (ap (at (seen ++ b ∷ [])) e ∙ at_last seen b)) k)
    (λ ne. let i : p < length seen = omega (arith, l, ne, length_push seen b) in subst P (sym (at_left seen b p i)) (h p i))
    (cases_eq p (length seen))

each_front : (P : Bound → Type 0) (seen : List Bound) (b : Bound) → Each P (seen ++ b ∷ []) → Each P seen
each_front P seen b h p l = subst P (at_left seen b p l) (h p (omega (arith, l, length_push seen b)))

-- ---- one more bound

rising_up : (limit more : ℕ) (ps : List ℕ) → limit ≤ more → Rising limit ps → Rising more ps
rising_up limit more [] h r = tt
rising_up limit more (p ∷ []) h r = omega arith
rising_up limit more (p ∷ q ∷ ps) h r = (r.0, rising_up limit more (q ∷ ps) h r.1)

module _ (seen : List Bound) (b : Bound) where
  leads_push : (x : ℕ) (ps : List ℕ) (y : ℕ) → Leads seen x ps y → Leads (seen ++ b ∷ []) x ps y
  leads_push x [] y w = w
  leads_push x (p ∷ ps) y w = (
    omega (arith, w.0, length_push seen b),
    ap (λ c. c.term) (at_left seen b p w.0) ∙ w.1,
    subst (λ c. Leads (seen ++ b ∷ []) c.base ps y) (sym (at_left seen b p w.0)) (leads_push (at seen p).base ps y w.2),
  )

  total_push : (ps : List ℕ) → AllByRecursion (λ p. p < length seen) ps → total (seen ++ b ∷ []) ps ≡ total seen ps
  total_push [] a = refl
  total_push (p ∷ ps) a = ap (λ c. c.most +ℤ total (seen ++ b ∷ []) ps) (at_left seen b p a.0) ∙ ap (λ z. (at seen p).most +ℤ z) (total_push ps a.1)

  terms_push : (ps : List ℕ) → AllByRecursion (λ p. p < length seen) ps → map (λ p. (at (seen ++ b ∷ []) p).term) ps ≡ map (λ p. (at seen p).term) ps
  terms_push [] a = refl
  terms_push (p ∷ ps) a = ap (λ c. c.term ∷ map (λ q. (at (seen ++ b ∷ []) q).term) ps) (at_left seen b p a.0) ∙ ap (λ z. (at seen p).term ∷ z) (terms_push ps a.1)

  -- a core of the list is one of the longer list
  core_push : (ps : List ℕ) → Core seen ps → Core (seen ++ b ∷ []) ps
  core_push ps k =
      let c : NegativeCycle seen k.around = k.cycle in
      let inside : AllByRecursion (λ p. p < length seen) k.around = leads_within seen c.start k.around c.start c.closed in
      record {
        rises = rising_up (length seen) (length (seen ++ b ∷ [])) ps (omega (arith, length_push seen b)) k.rises;
        around = k.around;
        cycle = record {
          start = c.start;
          closed = leads_push c.start k.around c.start c.closed;
          simple = subst Distinct (sym (terms_push k.around inside)) c.simple;
          negative = subst (λ z. z <ℤ pos 0) (sym (total_push k.around inside)) c.negative;
        };
        same = k.same;
      }

pub start : (m : ℕ) (seen : List Bound) (b : Bound) (row : List ℤ) → Named m (seen ++ b ∷ []) → Greatest m seen row → Start m (seen ++ b ∷ []) b.base row
start m seen b row formed g = record {
  long = g.fit.long;
  low = g.low;
  formed = formed;
  kept = each_push (λ c. (c.base ≡ b.base) ⊎ (excess row c ≤ℤ pos 0)) seen b (λ p h. inr (omega (arith, ints, g.fit.keeps p h))) (inl refl);
  above = λ f fit low. g.above f (record { long = fit.long; keeps = each_front (Keeps f) seen b fit.keeps }) low;
}

pub going : (m : ℕ) (bs : List Bound) (u : ℕ) (row : List ℤ) → Start m bs u row → Going m bs u row row [] (worst row bs).1
going m bs u row s = record {
  long = s.long;
  settling = record {
    lower = λ x. ≤ℤ_refl (num row x);
    apart = λ x. inl refl;
    near = bounds row 0 (0, pos 0) bs;
    kept = λ p h. inl refl;
  };
  walk = λ j h. absurd (omega arith);
  once = λ i j l h. absurd (omega arith);
  led = λ x. inl refl;
  above = s.above;
}

pub add_good : (m : ℕ) (seen : List Bound) (o : Outcome) (b : Bound) → Named m (seen ++ b ∷ []) → Good m seen o → Good m (seen ++ b ∷ []) (add m seen o b)
add_good m seen (fits row) b formed g =
    let s : Start m (seen ++ b ∷ []) b.base row = start m seen b row formed g in
    settled m (seen ++ b ∷ []) b.base row s (m + 1) row [] (worst row (seen ++ b ∷ [])).1 (going m (seen ++ b ∷ []) b.base row s)
    (omega (arith, free_all row row, s.long))
add_good m seen (clash ps) b formed g = core_push seen b ps g

-- ---- the whole list

formed_front : (m : ℕ) (seen bs : List Bound) → Named m (seen ++ bs) → Named m seen
formed_front m seen bs h p l =
    subst (λ b. (b.term < m) × (b.base < m)) (get_or_append_left seen bs no_bound p l)
    (h p (omega (arith, l, length-append seen bs)))

from_good : (m : ℕ) (seen : List Bound) (o : Outcome) (bs : List Bound) → Named m (seen ++ bs) → Good m seen o → Good m (seen ++ bs) (outcome_from m seen o bs)
unfolding outcome_from
from_good m seen o [] formed g = rw append-nil g
from_good m seen o (b ∷ bs) formed g =
    let e : (seen ++ b ∷ []) ++ bs ≡ seen ++ b ∷ bs = append_assoc seen (b ∷ []) bs in
    let formed' : Named m ((seen ++ b ∷ []) ++ bs) = subst (Named m) (sym e) formed in
    subst (λ z. Good m z (outcome_from m (seen ++ b ∷ []) (add m seen o b) bs)) e
    (from_good m (seen ++ b ∷ []) (add m seen o b) bs formed'
    (add_good m seen o b (formed_front m (seen ++ b ∷ []) bs formed') g))

pub num_zeros : (m x : ℕ) → num (replicate m (pos 0)) x ≡ pos 0
num_zeros zero x = refl
num_zeros (suc m) zero = refl
num_zeros (suc m) (suc x) = num_zeros m x

zeros : (m : ℕ) → Greatest m [] (replicate m (pos 0))
zeros m = record {
  fit = record { long = length-replicate m (pos 0); keeps = λ p h. absurd (omega arith) };
  low = λ x h. omega (arith, ints, num_zeros m x);
  above = λ f fit low x h. omega (arith, ints, num_zeros m x, low x (omega (arith, h, fit.long)));
}

pub outcome_good : (m : ℕ) (bs : List Bound) → Named m bs → Good m bs (outcome m bs)
outcome_good m bs formed = from_good m [] (fits (replicate m (pos 0))) bs formed (zeros m)

from_push : (m : ℕ) (seen : List Bound) (o : Outcome) (bs : List Bound) (b : Bound) → outcome_from m seen o (bs ++ b ∷ []) ≡ add m (seen ++ bs) (outcome_from m seen o bs) b
unfolding outcome_from
from_push m seen o [] b = ap (λ z. add m z o b) (sym (append-nil seen))
from_push m seen o (c ∷ bs) b =
    from_push m (seen ++ c ∷ []) (add m seen o c) bs b
    ∙ ap (λ z. add m z (outcome_from m (seen ++ c ∷ []) (add m seen o c) bs) b) (append_assoc seen (c ∷ []) bs)

pub outcome_push : (m : ℕ) (bs : List Bound) (b : Bound) → outcome m (bs ++ b ∷ []) ≡ add m bs (outcome m bs) b
outcome_push m bs b = from_push m [] (fits (replicate m (pos 0))) bs b

pub outcome_none : (m : ℕ) → outcome m [] ≡ fits (replicate m (pos 0))
unfolding outcome_from
outcome_none m = refl
