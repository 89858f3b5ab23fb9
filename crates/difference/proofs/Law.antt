-- The law of a theory, for distances. Assumes nothing.
use Rattle.std.proofs.Common.{◌≡◌, ℕ, ◌*◌, ◌%◌, ◌<◌, eqb, ◌⊎◌, List, [], ◌∷◌, length, get_or, ℤ, ◌-ℤ◌, sym, ap, ◌∙◌, subst, inl, inr, ⊎_elim, arith}
use Rattle.std.proofs.lemmas.Int.{ints, by_lt_z}
use Rattle.std.proofs.lemmas.Bool.{cases_eq, cond-true, cond-false, eq-eqb, ne_eqb}
use Rattle.std.proofs.lemmas.List.{length-map, get_or-map}
use Rattle.std.proofs.lemmas.List.Elements.{recursion_from_All}
use Rattle.std.specs.List.{All, AllByRecursion}
use Rattle.theory.specs.Literals.{claim, complement, Proper}
use Rattle.theory.specs.Meaning.{possible, impossible, Rising, num}
use Rattle.theory.proofs.Positions.{all_has, has_all}
use Rattle.difference.specs.declared.bound.Bound.{Bound}
use Rattle.difference.specs.Bounds.{no_bound, at, Keeps, Each, Named, Greatest, NegativeCycle, Core}
use Rattle.difference.specs.Settling.{Outcome, fits, clash, outcome}
use Rattle.difference.specs.Distance.{denied, bound_of, said, answer_of, row_of, Stands}
use Rattle.difference.proofs.Cycle.{leads_within, cycle_fails}
use Rattle.difference.proofs.Outcome.{Good}
use Rattle.difference.proofs.Whole.{outcome_good}

-- ---- a literal and its complement

even : (claims : List Bound) (l : ℕ) → l % 2 ≡ 0 → bound_of claims l ≡ at claims (claim l)
even claims l e = cond-true (eqb (l % 2) 0) (at claims (claim l)) (denied (at claims (claim l))) (eq-eqb (l % 2) 0 e)

odd : (claims : List Bound) (l : ℕ) → (l % 2 ≡ 0 → ⊥) → bound_of claims l ≡ denied (at claims (claim l))
odd claims l e = cond-false (eqb (l % 2) 0) (at claims (claim l)) (denied (at claims (claim l))) (ne_eqb (l % 2) 0 e)

-- of the two bounds of a literal and its complement, one is a bound and the other its denial
Pair : Bound → Bound → Type 0
Pair b c = (c ≡ denied b) ⊎ (b ≡ denied c)

paired : (claims : List Bound) (l : ℕ) → Pair (bound_of claims l) (bound_of claims (complement l))
unfolding Pair
paired claims l =
    ⊎_elim
    (λ e. let f : complement l % 2 ≡ 0 → ⊥ = λ z. omega arith in
    let g : claim (complement l) ≡ claim l = omega arith in
    inl (odd claims (complement l) f ∙ ap (λ i. denied (at claims i)) g ∙ ap denied (sym (even claims l e))))
    (λ ne. let f : complement l % 2 ≡ 0 = omega arith in
    let g : claim l ≡ claim (complement l) = omega arith in
    inr (odd claims l ne ∙ ap (λ i. denied (at claims i)) g ∙ ap denied (sym (even claims (complement l) f))))
    (cases_eq (l % 2) 0)

one_of : (v : List ℤ) (b : Bound) → Keeps v b ⊎ Keeps v (denied b)
one_of v b = by_lt_z b.most (num v b.term -ℤ num v b.base) (λ h. inr (omega (arith, ints, h))) (λ h. inl h)

not_two : (v : List ℤ) (b : Bound) → Keeps v b → Keeps v (denied b) → ⊥
not_two v b h k = omega (arith, ints, h, k)

one : (claims : List Bound) (v : List ℤ) (l : ℕ) → Keeps v (bound_of claims l) ⊎ Keeps v (bound_of claims (complement l))
unfolding Pair
one claims v l =
    ⊎_elim
    (λ e. ⊎_elim (λ h. inl h) (λ h. inr (subst (Keeps v) (sym e) h)) (one_of v (bound_of claims l)))
    (λ e. ⊎_elim (λ h. inr h) (λ h. inl (subst (Keeps v) (sym e) h)) (one_of v (bound_of claims (complement l))))
    (paired claims l)

two : (claims : List Bound) (v : List ℤ) (l : ℕ) → Keeps v (bound_of claims l) → Keeps v (bound_of claims (complement l)) → ⊥
unfolding Pair
two claims v l x y =
    ⊎_elim
    (λ e. not_two v (bound_of claims l) x (subst (Keeps v) e y))
    (λ e. not_two v (bound_of claims (complement l)) y (subst (Keeps v) e x))
    (paired claims l)

-- ---- a list of literals

module _ (m : ℕ) (claims : List Bound) (named : Named m claims) where
  pub bound_named : (l : ℕ) → l < 2 * length claims → ((bound_of claims l).term < m) × ((bound_of claims l).base < m)
  bound_named l h =
      let f : _ = named (claim l) (omega (arith, h)) in
      ⊎_elim
      (λ e. subst (λ b. (b.term < m) × (b.base < m)) (sym (even claims l e)) f)
      (λ ne. subst (λ b. (b.term < m) × (b.base < m)) (sym (odd claims l ne)) (f.1, f.0))
      (cases_eq (l % 2) 0)

  list_named : (ls : List ℕ) → Proper (length claims) ls → Named m (said claims ls)
  list_named ls proper p h =
      let l : p < length ls = omega (arith, h, length-map ls (bound_of claims)) in
      subst (λ b. (b.term < m) × (b.base < m)) (sym (get_or-map (bound_of claims) ls p 0 no_bound l))
      (bound_named (get_or ls p 0) (proper.below p 0 l))

  good : (ls : List ℕ) → Proper (length claims) ls → Good m (said claims ls) (outcome m (said claims ls))
  good ls proper = outcome_good m (said claims ls) (list_named ls proper)

-- ---- what an outcome says of a list

all_keep : (claims : List Bound) (row : List ℤ) (ls : List ℕ) → Each (Keeps row) (said claims ls) → All (λ l. Keeps row (bound_of claims l)) ls
all_keep claims row ls h k d i = subst (Keeps row) (get_or-map (bound_of claims) ls k d no_bound i) (h k (omega (arith, i, length-map ls (bound_of claims))))

all_at : (claims : List Bound) (v : List ℤ) (ls ps : List ℕ) → AllByRecursion (λ p. p < length (said claims ls)) ps → AllByRecursion (λ p. Keeps v (bound_of claims (get_or ls p 0))) ps → AllByRecursion (λ p. Keeps v (at (said claims ls) p)) ps
all_at claims v ls [] r h = tt
all_at claims v ls (p ∷ ps) r h = (
  subst (Keeps v) (sym (get_or-map (bound_of claims) ls p 0 no_bound (omega (arith, r.0, length-map ls (bound_of claims))))) h.0,
  all_at claims v ls ps r.1 h.1,
)

-- what holds at each position of a core holds around its cycle
all_around : (P : ℕ → Type 0) (bs : List Bound) (core : List ℕ) (k : Core bs core) → All P core → AllByRecursion P k.around
all_around P bs core k a = has_all P k.around (λ p h. all_has P core (recursion_from_All P core a) p (k.same p ∙ h))

when_possible : (m : ℕ) (bs : List Bound) (o : Outcome) → Good m bs o → answer_of o ≡ possible → Greatest m bs (row_of o)
when_possible m bs (fits row) g e = g
when_possible m bs (clash ps) g e = cc

when_impossible : (m : ℕ) (bs : List Bound) (o : Outcome) (ps : List ℕ) → Good m bs o → answer_of o ≡ impossible ps → Core bs ps
when_impossible m bs (fits row) ps g e = cc
when_impossible m bs (clash qs) ps g e = let z : qs ≡ ps = cc in subst (Core bs) z g

pub stands : Stands
stands m claims hm hn named = record {
  law = record {
    few_claims = hn;
    few_terms = hm;
    one_holds = λ v f l h. one claims v l;
    not_both = λ v f l h x y. two claims v l x y;
    possible_fit = λ ls p e. ((fit ls p e).fit.long, tt);
    possible_holds = λ ls p e. all_keep claims (row_of (outcome m (said claims ls))) ls (fit ls p e).fit.keeps;
    core_rises = λ ls ps p e. subst (λ n. Rising n ps) (length-map ls (bound_of claims)) (cycle ls ps p e).rises;
    core_fails = λ ls ps p e v f h.
        let k : Core (said claims ls) ps = cycle ls ps p e in
        let c : NegativeCycle (said claims ls) k.around = k.cycle in
        cycle_fails (said claims ls) k.around v c
        (all_at claims v ls k.around (leads_within (said claims ls) c.start k.around c.start c.closed)
        (all_around (λ p. Keeps v (bound_of claims (get_or ls p 0))) (said claims ls) ps k h));
  };
  greatest = fit;
  cyclic = cycle;
  acyclic = λ ls ps p e c.
      let f : Greatest m (said claims ls) (row_of (outcome m (said claims ls))) = fit ls p e in
      cycle_fails (said claims ls) ps (row_of (outcome m (said claims ls))) c
      (kept (said claims ls) (row_of (outcome m (said claims ls))) f.fit.keeps ps (leads_within (said claims ls) c.start ps c.start c.closed));
}
  where
    fit : (ls : List ℕ) → Proper (length claims) ls → answer_of (outcome m (said claims ls)) ≡ possible → Greatest m (said claims ls) (row_of (outcome m (said claims ls)))
    fit ls p e = when_possible m (said claims ls) (outcome m (said claims ls)) (good m claims named ls p) e

    cycle : (ls ps : List ℕ) → Proper (length claims) ls → answer_of (outcome m (said claims ls)) ≡ impossible ps → Core (said claims ls) ps
    cycle ls ps p e = when_impossible m (said claims ls) (outcome m (said claims ls)) ps (good m claims named ls p) e

    kept : (bs : List Bound) (row : List ℤ) → Each (Keeps row) bs → (ps : List ℕ) → AllByRecursion (λ p. p < length bs) ps → AllByRecursion (λ p. Keeps row (at bs p)) ps
    kept bs row h [] a = tt
    kept bs row h (p ∷ ps) a = (h p a.0, kept bs row h ps a.1)
