-- The law of a theory, for equality. Assumes nothing.
use Rattle.std.proofs.Common.{◌≡◌, ℕ, zero, suc, ◌+◌, ◌%◌, ◌<◌, ◌≤◌, Bool, true, false, cond, not, ◌||◌, eqb, ◌⊎◌, List, [], length, get_or, ℤ, pos, Some, None, Option, sym, refl, ap, ◌∙◌, subst, inl, inr, ⊎_elim, add-one, arith}
use Rattle.std.proofs.lemmas.Int.{ints, by_lt_z}
use Rattle.std.proofs.lemmas.Bool.{cases_eq, eq-eqb, ne_eqb, eqb-true, eqb-false, and_parts, and_from, or_cases, or_left, or_right, not-true, not_from_false}
use Rattle.std.proofs.lemmas.List.{get_or_default}
use Rattle.std.proofs.lemmas.List.Elements.{recursion_from_All}
use Rattle.std.specs.List.{All}
use Rattle.theory.specs.declared.term.Term.{Term}
use Rattle.theory.specs.Literals.{claim, complement, Proper}
use Rattle.theory.specs.Meaning.{possible, impossible, Rising, num}
use Rattle.theory.specs.Terms.{at}
use Rattle.theory.proofs.Positions.{all_has, listed_rises, listed_has, listed_only}
use Rattle.congruence.specs.declared.claim.Claim.{Claim}
use Rattle.congruence.specs.declared.step.Step.{Step}
use Rattle.congruence.specs.declared.step.Reason.{Reason}
use Rattle.congruence.specs.Table.{arg, Lower}
use Rattle.congruence.specs.Congruence.{Fit, Joined}
use Rattle.congruence.specs.Merges.{when, label, pair_at, pair_of, settle, join, absorb, log_at, log_of, needed}
use Rattle.congruence.specs.Equality.{Says, clashes, clash, core, answer_of, equality, row, Named, Asserts, Asserted, Contradicted, LowestJoined, Lowest, OneDenial, Stands}
use Rattle.congruence.specs.Log.{Logged}
use Rattle.congruence.proofs.Searches.{found, not_found, when_some, when_none, row_long, row_at}
use Rattle.congruence.proofs.Closing.{settles, joins, roots_few, label_low, label_root}
use Rattle.congruence.proofs.Explaining.{complete, widen, At, explained, needed_asserted}

-- ---- a literal and its complement

same_or_not : (x y : ℤ) → (x ≡ y) ⊎ (x ≡ y → ⊥)
same_or_not x y =
    by_lt_z x y (λ h. inr (λ e. omega (arith, ints, h, e)))
    (λ h. by_lt_z y x (λ k. inr (λ e. omega (arith, ints, k, e))) (λ k. inl (omega (arith, ints, h, k))))

-- a literal holds in a row of numbers
abbrev Holds : List Claim → List ℤ → ℕ → Type 0
Holds claims v l = Says (l % 2) (num v (pair_of claims l).left) (num v (pair_of claims l).right)

Same : List Claim → List ℤ → ℕ → Type 0
Same claims v l = num v (pair_of claims l).left ≡ num v (pair_of claims l).right

module _ (claims : List Claim) (v : List ℤ) where
  to_even : (l : ℕ) → l % 2 ≡ 0 → Same claims v l → Holds claims v l
  unfolding Same
  to_even l e h = subst (λ (n : ℕ). Says n (num v (pair_of claims l).left) (num v (pair_of claims l).right)) (sym e) h

  from_even : (l : ℕ) → l % 2 ≡ 0 → Holds claims v l → Same claims v l
  unfolding Same
  from_even l e h = subst (λ (n : ℕ). Says n (num v (pair_of claims l).left) (num v (pair_of claims l).right)) e h

  to_odd : (l : ℕ) → l % 2 ≡ 1 → (Same claims v l → ⊥) → Holds claims v l
  unfolding Same
  to_odd l e h = subst (λ (n : ℕ). Says n (num v (pair_of claims l).left) (num v (pair_of claims l).right)) (sym e) h

  from_odd : (l : ℕ) → l % 2 ≡ 1 → Holds claims v l → Same claims v l → ⊥
  unfolding Same
  from_odd l e h = subst (λ (n : ℕ). Says n (num v (pair_of claims l).left) (num v (pair_of claims l).right)) e h

  same_complement : (l : ℕ) → Same claims v l ≡ Same claims v (complement l)
  unfolding Same
  same_complement l =
      let e : claim l ≡ claim (complement l) = omega arith in
      ap (λ (i : ℕ). num v (pair_at claims i).left ≡ num v (pair_at claims i).right) e

  over : (l : ℕ) → Same claims v l → Same claims v (complement l)
  over l h = subst (λ (X : Type 0). X) (same_complement l) h

  back : (l : ℕ) → Same claims v (complement l) → Same claims v l
  back l h = subst (λ (X : Type 0). X) (sym (same_complement l)) h

  one : (l : ℕ) → Holds claims v l ⊎ Holds claims v (complement l)
  unfolding Same
  one l = ⊎_elim
      (λ (e : l % 2 ≡ 0). ⊎_elim
      (λ (h : Same claims v l). inl (to_even l e h))
      (λ (h : Same claims v l → ⊥). inr (to_odd (complement l) (omega arith) (λ x. h (back l x))))
      (same_or_not (num v (pair_of claims l).left) (num v (pair_of claims l).right)))
      (λ (e : l % 2 ≡ 0 → ⊥). ⊎_elim
      (λ (h : Same claims v l). inr (to_even (complement l) (omega arith) (over l h)))
      (λ (h : Same claims v l → ⊥). inl (to_odd l (omega arith) h))
      (same_or_not (num v (pair_of claims l).left) (num v (pair_of claims l).right)))
      (cases_eq (l % 2) 0)

  not_two : (l : ℕ) → Holds claims v l → Holds claims v (complement l) → ⊥
  not_two l x y = ⊎_elim
      (λ (e : l % 2 ≡ 0). from_odd (complement l) (omega arith) y (over l (from_even l e x)))
      (λ (e : l % 2 ≡ 0 → ⊥). from_odd l (omega arith) x (back l (from_even (complement l) (omega arith) y)))
      (cases_eq (l % 2) 0)

-- ---- a list of literals

all_from : (P : ℕ → Type 0) (ls : List ℕ) → ((p : ℕ) → p < length ls → P (get_or ls p 0)) → All P ls
all_from P ls h k d i = subst P (get_or_default ls k 0 d i) (h k i)

-- what the log of the first `k` literals is
record Good (ts : List Term) (claims : List Claim) (ls : List ℕ) (k : ℕ) (log : List Step) : Type 0 where
  logged : Logged ts (Asserts claims ls) log
  fit : Fit ts (label log)
  equal : (p t u : ℕ) → p < k → Asserts claims ls p t u → label log t ≡ label log u

module _ (ts : List Term) (claims : List Claim) (named : Named ts claims) (ls : List ℕ) (proper : Proper (length claims) ls) where
  pair_in : (p : ℕ) → p < length ls → ((pair_of claims (get_or ls p 0)).left < length ts) × ((pair_of claims (get_or ls p 0)).right < length ts)
  pair_in p h = named (claim (get_or ls p 0)) (omega (arith, proper.below p 0 h))

  good_on : (k : ℕ) → k < length ls → (log : List Step) → Good ts claims ls k log → Good ts claims ls (suc k) (absorb ts claims k (get_or ls k 0) log)
  good_on k h log g = go (eqb (get_or ls k 0 % 2) 0) refl
    where
      after : List Step
      after = join ts (pair_of claims (get_or ls k 0)).left (pair_of claims (get_or ls k 0)).right (Reason.Asserted k) log

      go : (c : Bool) → eqb (get_or ls k 0 % 2) 0 ≡ c → Good ts claims ls (suc k)
          (cond c (join ts (pair_of claims (get_or ls k 0)).left (pair_of claims (get_or ls k 0)).right (Reason.Asserted k) log) log)
      go true e =
          let here : Asserts claims ls k (pair_of claims (get_or ls k 0)).left (pair_of claims (get_or ls k 0)).right =
          record { within = h; even = eqb-true (get_or ls k 0 % 2) 0 e; left_is = refl; right_is = refl } in
          let w = joins ts (Asserts claims ls) (pair_of claims (get_or ls k 0)).left (pair_of claims (get_or ls k 0)).right (Reason.Asserted k) log
          g.logged g.fit (pair_in k h).0 (pair_in k h).1 here in
          record {
            logged = w.0.logged;
            fit = w.0.fit;
            equal = λ p t u p< x. ⊎_elim
                (λ (q : p ≡ k).
                let y : Asserts claims ls k t u = subst (λ (n : ℕ). Asserts claims ls n t u) q x in
                ap (label after) (sym y.left_is) ∙ w.1 ∙ ap (label after) y.right_is)
                (λ (q : p ≡ k → ⊥). w.0.stays t u (g.equal p t u (omega arith) x))
                (cases_eq p k);
          }
      go false e = record {
        logged = g.logged;
        fit = g.fit;
        equal = λ p t u p< x. ⊎_elim
            (λ (q : p ≡ k). absurd (eqb-false (get_or ls k 0 % 2) 0 e (subst (λ (n : ℕ). Asserts claims ls n t u) q x).even))
            (λ (q : p ≡ k → ⊥). g.equal p t u (omega arith) x)
            (cases_eq p k);
      }

  good_at : (k : ℕ) → k ≤ length ls → Good ts claims ls k (log_at ts claims ls k)
  unfolding log_at
  good_at zero h =
      let w = settles ts (Asserts claims ls) (length ts) [] tt (roots_few (label []) (length ts)) in
      record { logged = w.logged; fit = w.fit; equal = λ p t u p< x. absurd (omega arith) }
  good_at (suc k) h = good_on k (omega arith) (log_at ts claims ls k) (good_at k (omega arith))

  good : Good ts claims ls (length ls) (log_of ts claims ls)
  good = good_at (length ls) (omega arith)

  -- ---- labels

  module _ (lower : Lower ts) where
    one_label : (t u : ℕ) → t < length ts → u < length ts → label (log_of ts claims ls) t ≡ label (log_of ts claims ls) u
        → Joined ts (At (Asserts claims ls) (λ p. needed ts (log_of ts claims ls) p t u)) t u
    one_label = explained ts (Asserts claims ls) lower (log_of ts claims ls) good.logged

    -- two terms have one label exactly if the asserted equalities join them
    given : {t u : ℕ} → Joined ts (Asserted claims ls) t u → label (log_of ts claims ls) t ≡ label (log_of ts claims ls) u
    given j = complete ts (Asserted claims ls) (label (log_of ts claims ls)) good.fit (λ t u a. good.equal a.0 t u a.1.within a.1) j

    only : (t u : ℕ) → t < length ts → u < length ts → label (log_of ts claims ls) t ≡ label (log_of ts claims ls) u → Joined ts (Asserted claims ls) t u
    only t u ht hu e =
        widen ts (At (Asserts claims ls) (λ p. needed ts (log_of ts claims ls) p t u)) (Asserted claims ls) (λ x y a. (a.0, a.2)) (one_label t u ht hu e)

    -- and a label is the lowest number of a term with it
    lowest_label : (t : ℕ) → t < length ts → LowestJoined ts claims ls t (label (log_of ts claims ls) t)
    lowest_label t h =
        let low = label_low ts (Asserts claims ls) (log_of ts claims ls) good.logged in
        record {
          joined = only t (label (log_of ts claims ls) t) h (omega (arith, low t)) (sym (label_root ts (Asserts claims ls) (log_of ts claims ls) good.logged t));
          lowest = λ u j. omega (arith, given j, low u);
        }

    -- ---- the fit that is written

    out : List ℤ
    out = row 0 (length ts) (λ t. pos (label (log_of ts claims ls) t))

    out_at : (t : ℕ) → t < length ts → num out t ≡ pos (label (log_of ts claims ls) t)
    unfolding out
    out_at t h = row_at 0 (length ts) (λ t. pos (label (log_of ts claims ls) t)) t h ∙ ap (λ (x : ℕ). pos (label (log_of ts claims ls) x)) (omega arith)

    same_label : (t u : ℕ) → t < length ts → u < length ts → num out t ≡ num out u → label (log_of ts claims ls) t ≡ label (log_of ts claims ls) u
    same_label t u ht hu e =
        let z : pos (label (log_of ts claims ls) t) ≡ pos (label (log_of ts claims ls) u) = sym (out_at t ht) ∙ e ∙ out_at u hu in cc

    same_out : (t u : ℕ) → t < length ts → u < length ts → label (log_of ts claims ls) t ≡ label (log_of ts claims ls) u → num out t ≡ num out u
    same_out t u ht hu e = out_at t ht ∙ ap pos e ∙ sym (out_at u hu)

    out_lowest : Lowest ts claims ls out
    unfolding out
    out_lowest = record {
      long = row_long 0 (length ts) _;
      lowest = λ t h. (label (log_of ts claims ls) t, out_at t h, lowest_label t h);
      same = λ t u ht hu. (λ e. only t u ht hu (same_label t u ht hu e), λ j. same_out t u ht hu (given j));
    }

    out_fit : Fit ts (num out)
    out_fit t u ht hu (s, a, args) =
        same_out t u ht hu (good.fit t u ht hu (
          s,
          a,
          λ i h.
              let x : arg (at ts t) i < t = lower t ht i h in
              let y : arg (at ts u) i < u = lower u hu i (omega (arith, a, h)) in
              same_label (arg (at ts t) i) (arg (at ts u) i) (omega (arith, x, ht)) (omega (arith, y, hu)) (args i h),
        ))

    out_holds : clash ts claims ls ≡ None → (p : ℕ) → p < length ls → Holds claims out (get_or ls p 0)
    unfolding Same
    out_holds e p h = ⊎_elim
        (λ (q : get_or ls p 0 % 2 ≡ 0).
        to_even claims out (get_or ls p 0) q
        (same_out _ _ (pair_in p h).0 (pair_in p h).1
        (good.equal p _ _ h (record { within = h; even = q; left_is = refl; right_is = refl }))))
        (λ (q : get_or ls p 0 % 2 ≡ 0 → ⊥).
        to_odd claims out (get_or ls p 0) (omega arith)
        (λ x.
        let y = when_none _ _ (not_found (length ls) (λ p. when (clashes (label (log_of ts claims ls)) claims (get_or ls p 0)) p) e p h) in
        let z : true ≡ false =
        sym (and_from _ _ (not_from_false _ (ne_eqb (get_or ls p 0 % 2) 0 q)) (eq-eqb _ _ (same_label _ _ (pair_in p h).0 (pair_in p h).1 x))) ∙ y in cc))
        (cases_eq (get_or ls p 0 % 2) 0)

    -- ---- the core

    -- a denial on the list whose terms have one label
    record Denied (d : ℕ) : Type 0 where
      within : d < length ls
      odd : get_or ls d 0 % 2 ≡ 1
      one_class : label (log_of ts claims ls) (pair_of claims (get_or ls d 0)).left ≡ label (log_of ts claims ls) (pair_of claims (get_or ls d 0)).right

    denied : (d : ℕ) → clash ts claims ls ≡ Some d → Denied d
    denied d e =
        let w = found (length ls) (λ p. when (clashes (label (log_of ts claims ls)) claims (get_or ls p 0)) p) d e in
        let x = when_some (clashes (label (log_of ts claims ls)) claims (get_or ls w.0 0)) w.0 d w.2 in
        let y = and_parts (not (eqb (get_or ls w.0 0 % 2) 0)) _ x.0 in
        let n : get_or ls w.0 0 % 2 ≡ 0 → ⊥ = eqb-false (get_or ls w.0 0 % 2) 0 (not-true _ y.0) in
        let here : Denied w.0 = record { within = w.1; odd = omega arith; one_class = eqb-true _ _ y.1 } in
        subst Denied x.1 here

    test : ℕ → ℕ → Bool
    test d p = eqb d p || needed ts (log_of ts claims ls) p (pair_of claims (get_or ls d 0)).left (pair_of claims (get_or ls d 0)).right

    core_is_false : (d : ℕ) → Denied d → (v : List ℤ) → Fit ts (num v) → All (λ p. Holds claims v (get_or ls p 0)) (core ts claims ls d) → ⊥
    unfolding test Same
    core_is_false d z v fit all =
        from_odd claims v (get_or ls d 0) z.odd (at_each d z.within (or_left _ _ (eq-eqb d d refl)))
        (complete ts (At (Asserts claims ls) (λ p. needed ts (log_of ts claims ls) p (pair_of claims (get_or ls d 0)).left (pair_of claims (get_or ls d 0)).right))
        (num v) fit
        (λ t u a.
        let y = from_even claims v (get_or ls a.0 0) a.2.even (at_each a.0 a.2.within (or_right (eqb d a.0) _ a.1)) in
        ap (num v) (sym a.2.left_is) ∙ y ∙ ap (num v) a.2.right_is)
        (one_label _ _ (pair_in d z.within).0 (pair_in d z.within).1 z.one_class))
      where
        at_each : (p : ℕ) → p < length ls → test d p ≡ true → Holds claims v (get_or ls p 0)
        at_each p h e = all_has (λ p. Holds claims v (get_or ls p 0)) (core ts claims ls d) (recursion_from_All _ _ all) p (listed_has 0 (length ls) (test d) p (omega arith) (omega arith) e)

    one_denial : (d : ℕ) → Denied d → OneDenial ls (core ts claims ls d)
    unfolding test
    one_denial d z = record {
      place = d;
      there = listed_has 0 (length ls) (test d) d (omega arith) (omega (arith, z.within)) (or_left _ _ (eq-eqb d d refl));
      denies = z.odd;
      others = λ p h ne. ⊎_elim
          (λ x. absurd (ne (sym (eqb-true d p x))))
          (λ x. (needed_asserted ts (Asserts claims ls) p (log_of ts claims ls) good.logged _ _ x).2.even)
          (or_cases (eqb d p) _ (listed_only 0 (length ls) (test d) p h));
    }

    contradicted : (d : ℕ) → Denied d → Contradicted ts claims ls d
    contradicted d z = record {
      within = z.within;
      odd = z.odd;
      joined = only _ _ (pair_in d z.within).0 (pair_in d z.within).1 z.one_class;
    }

    uncontradicted : clash ts claims ls ≡ None → (d : ℕ) → Contradicted ts claims ls d → ⊥
    uncontradicted e d x =
        let y = when_none _ _ (not_found (length ls) (λ p. when (clashes (label (log_of ts claims ls)) claims (get_or ls p 0)) p) e d x.within) in
        let one_class = given x.joined in
        let z : true ≡ false =
        sym (and_from _ _ (not_from_false _ (ne_eqb (get_or ls d 0 % 2) 0 (λ q. omega (arith, x.odd, q)))) (eq-eqb _ _ one_class)) ∙ y in cc

-- ---- the law

when_possible : (at_core : ℕ → List ℕ) (o : Option ℕ) → answer_of at_core o ≡ possible → o ≡ None
when_possible at_core None e = refl
when_possible at_core (Some d) e = cc

when_impossible : (at_core : ℕ → List ℕ) (o : Option ℕ) (ps : List ℕ) → answer_of at_core o ≡ impossible ps → (d : ℕ) × (o ≡ Some d) × (at_core d ≡ ps)
when_impossible at_core None ps e = cc
when_impossible at_core (Some d) ps e = (d, refl, cc)

pub stands : Stands
unfolding out
stands ts claims few_ts lower few named =
    let split : (ls ps : List ℕ) → answer_of (core ts claims ls) (clash ts claims ls) ≡ impossible ps → (d : ℕ) × (clash ts claims ls ≡ Some d) × (core ts claims ls d ≡ ps) =
    λ ls ps e. when_impossible (core ts claims ls) (clash ts claims ls) ps e in
    record {
      law = record {
        few_claims = few;
        few_terms = few_ts;
        one_holds = λ v f l h. one claims v l;
        not_both = λ v f l h x y. not_two claims v l x y;
        possible_fit = λ ls p e. (row_long 0 (length ts) _, out_fit ts claims named ls p lower);
        possible_holds = λ ls p e. all_from (λ l. (equality ts claims).Holds l ((equality ts claims).written ls)) ls (out_holds ts claims named ls p lower (when_possible (core ts claims ls) (clash ts claims ls) e));
        core_rises = λ ls ps p e. let w = split ls ps e in subst (Rising (length ls)) w.2 (listed_rises (length ls) _);
        core_fails = λ ls ps p e v f h. let w = split ls ps e in
            core_is_false ts claims named ls p lower w.0 (denied ts claims named ls p lower w.0 w.1) v f.1
            (subst (All (λ q. Holds claims v (get_or ls q 0))) (sym w.2) h);
      };
      lowest = λ ls p. out_lowest ts claims named ls p lower;
      contradicted = λ ls ps p e. let w = split ls ps e in (w.0, contradicted ts claims named ls p lower w.0 (denied ts claims named ls p lower w.0 w.1));
      uncontradicted = λ ls p e d x. uncontradicted ts claims named ls p lower (when_possible (core ts claims ls) (clash ts claims ls) e) d x;
      denial = λ ls ps p e. let w = split ls ps e in
          subst (OneDenial ls) w.2 (one_denial ts claims named ls p lower w.0 (denied ts claims named ls p lower w.0 w.1));
    }

-- the log of the first `k` literals rests on those alone
pub log_at_same : (ts : List Term) (claims : List Claim) (ls ms : List ℕ) (k : ℕ) → ((p : ℕ) → p < k → get_or ls p 0 ≡ get_or ms p 0) → log_at ts claims ls k ≡ log_at ts claims ms k
unfolding log_at
log_at_same ts claims ls ms zero e = refl
log_at_same ts claims ls ms (suc k) e =
    ap (λ (l : ℕ). absorb ts claims k l (log_at ts claims ls k)) (e k (omega arith))
    ∙ ap (absorb ts claims k (get_or ms k 0)) (log_at_same ts claims ls ms k (λ p h. e p (omega arith)))

pub log_at_more : (ts : List Term) (claims : List Claim) (ls : List ℕ) (k : ℕ) → absorb ts claims k (get_or ls k 0) (log_at ts claims ls k) ≡ log_at ts claims ls (k + 1)
unfolding log_at
log_at_more ts claims ls k = ap (log_at ts claims ls) (sym (add-one k))

pub log_at_none : (ts : List Term) (claims : List Claim) (ls : List ℕ) → settle ts (length ts) [] ≡ log_at ts claims ls 0
unfolding log_at
log_at_none ts claims ls = refl
