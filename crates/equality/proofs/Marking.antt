-- Marks that are set while explaining cover just what is needed. Assumes nothing.
use Rattle.std.proofs.Common.{◌≡◌, ℕ, zero, suc, ◌+◌, ◌<◌, ◌≤◌, Bool, true, false, ◌||◌, eqb, List, [], ◌∷◌, length, get_or, set, sym, refl, ap, ◌∙◌, subst, inl, inr, ⊎_elim, add-one, arith}
use Rattle.std.proofs.lemmas.Bool.{cases_eq, eq-eqb, ne_eqb, eqb-true, cond-true, cond-false, or_cases, or_left, or_right}
use Rattle.std.proofs.lemmas.List.{length-set, get_or-set_same, get_or-set_other}
use Rattle.theory.specs.declared.term.Term.{Term}
use Rattle.theory.specs.Terms.{at}
use Rattle.congruence.specs.declared.step.Step.{Step}
use Rattle.congruence.specs.declared.step.Reason.TheVariants.{Congruence, Asserted}
use Rattle.congruence.specs.Table.{arg}
use Rattle.congruence.specs.Congruence.{Congruent}
use Rattle.congruence.specs.Merges.{relabel, label, any_below, rests, crosses, needed}
use Rattle.congruence.specs.Log.{RestsOn, Rightful}
use Rattle.congruence.proofs.Explaining.{met, across, crossed}
use Rattle.equality.specs.Logs.{step_at, until, label_at}
use Rattle.equality.specs.Marked.{Joins, Sides, Covered, basis, Whole, Grown}

-- ---- labels, one merge on

label_more : (ss : List Step) (k t : ℕ) → label_at ss (k + 1) t ≡ relabel (step_at ss k).high (step_at ss k).low (label_at ss k t)
label_more ss k t = ap (λ (n : ℕ). label_at ss n t) (add-one k)

-- ---- the ends of a merge

module _ (ts : List Term) (ss : List Step) (t u k : ℕ) (j : Joins ss t u k) (here : Rightful ts (λ p a b. Unit {0}) (label_at ss k) (step_at ss k)) where
  pub sides_same : label_at ss k t ≡ label_at ss k (step_at ss k).left
      → Sides ts ss t u k record { near = (step_at ss k).left; far = (step_at ss k).right }
  sides_same q = record {
    near_in = here.left_in;
    far_in = here.right_in;
    near_side = q;
    far_side = across _ _ _ _ _ _ (met (step_at ss k).high (step_at ss k).low (label_at ss k t) (label_at ss k u) j.apart
        (sym (label_more ss k t) ∙ j.together ∙ label_more ss k u)) here.ends q;
    way = λ needs. cond-true (eqb (label_at ss k t) (label_at ss k (step_at ss k).left)) _ _ (eq-eqb _ _ q);
  }

  pub sides_other : (label_at ss k t ≡ label_at ss k (step_at ss k).left → ⊥)
      → Sides ts ss t u k record { near = (step_at ss k).right; far = (step_at ss k).left }
  sides_other q =
      let c = crossed _ _ _ _ _ _ (met (step_at ss k).high (step_at ss k).low (label_at ss k t) (label_at ss k u) j.apart
      (sym (label_more ss k t) ∙ j.together ∙ label_more ss k u)) here.ends q in
      record {
        near_in = here.right_in;
        far_in = here.left_in;
        near_side = c.0;
        far_side = c.1;
        way = λ needs. cond-false (eqb (label_at ss k t) (label_at ss k (step_at ss k).left)) _ _ (ne_eqb _ _ q);
      }

-- ---- what is needed, by the merge at which two terms met

pub needed_none : (ts : List Term) (log : List Step) (p t : ℕ) → needed ts log p t t ≡ false
unfolding needed
needed_none ts [] p t = refl
needed_none ts (s ∷ older) p t =
    cond-true (eqb (label older t) (label older t)) (needed ts older p t t) _ (eq-eqb (label older t) (label older t) refl) ∙ needed_none ts older p t

-- two terms of one class stay so
pub stay : (ss : List Step) (t u k n : ℕ) → k ≤ n → label_at ss k t ≡ label_at ss k u → label_at ss n t ≡ label_at ss n u
stay ss t u k zero h e = subst (λ (x : ℕ). label_at ss x t ≡ label_at ss x u) (let z : k ≡ 0 = omega arith in z) e
stay ss t u k (suc n) h e = ⊎_elim
    (λ (q : k ≡ suc n). subst (λ (x : ℕ). label_at ss x t ≡ label_at ss x u) q e)
    (λ (q : k ≡ suc n → ⊥). ap (relabel (step_at ss n).high (step_at ss n).low) (stay ss t u k n (omega arith) e))
    (cases_eq k (suc n))

pub needed_met : (ts : List Term) (ss : List Step) (p t u k n : ℕ) → k < n → Joins ss t u k
    → needed ts (until ss n) p t u ≡ (crosses (label_at ss k) (needed ts (until ss k) p) (step_at ss k) t u || basis ts ss k p)
unfolding needed
needed_met ts ss p t u k zero h j = absurd (omega arith)
needed_met ts ss p t u k (suc n) h j = ⊎_elim
    (λ (q : k ≡ n).
    subst (λ (x : ℕ). needed ts (until ss (suc x)) p t u ≡ (crosses (label_at ss k) (needed ts (until ss k) p) (step_at ss k) t u || basis ts ss k p)) q
    (cond-false (eqb (label_at ss k t) (label_at ss k u)) _ _ (ne_eqb _ _ j.apart)))
    (λ (q : k ≡ n → ⊥).
    cond-true (eqb (label_at ss n t) (label_at ss n u)) _ _ (eq-eqb _ _ (stay ss t u (k + 1) n (omega arith) j.together))
    ∙ needed_met ts ss p t u k n (omega arith) j)
    (cases_eq k n)

-- ---- marks

pub covered_kept : (ss : List Step) (ms ns : List Bool) → ((j : ℕ) → get_or ms j false ≡ true → get_or ns j false ≡ true) → (p : ℕ) → Covered ss ms p → Covered ss ns p
covered_kept ss ms ns h p c = (c.0, c.1, h c.0 c.2, c.3)

pub grown_none : (ts : List Term) (ss : List Step) (ms : List Bool) (test : ℕ → Bool) → Whole ts ss ms → ((p : ℕ) → test p ≡ false) → Grown ts ss ms ms test
grown_none ts ss ms test w h = record {
  long = refl;
  kept = λ j e. e;
  whole = w;
  all = λ p e. absurd (let z : true ≡ false = sym e ∙ h p in let x : ◌≡◌ {A = ℕ} 0 1 = cc in omega arith);
  only = λ p c. inl c;
}

pub grown_trans : (ts : List Term) (ss : List Step) (ls ms ns : List Bool) (f g : ℕ → Bool) → Grown ts ss ls ms f → Grown ts ss ms ns g
    → Grown ts ss ls ns (λ p. f p || g p)
grown_trans ts ss ls ms ns f g x y = record {
  long = y.long ∙ x.long;
  kept = λ j e. y.kept j (x.kept j e);
  whole = y.whole;
  all = λ p e. ⊎_elim (λ h. covered_kept ss ms ns y.kept p (x.all p h)) (λ h. y.all p h) (or_cases (f p) (g p) e);
  only = λ p c. ⊎_elim
      (λ h. ⊎_elim (λ k. inl k) (λ k. inr (or_left (f p) (g p) k)) (x.only p h))
      (λ h. inr (or_right (f p) (g p) h))
      (y.only p c);
}

-- the same positions, by another test
pub grown_as : (ts : List Term) (ss : List Step) (ms ns : List Bool) (f g : ℕ → Bool) → ((p : ℕ) → g p ≡ f p) → Grown ts ss ms ns f → Grown ts ss ms ns g
grown_as ts ss ms ns f g h x = record {
  long = x.long;
  kept = x.kept;
  whole = x.whole;
  all = λ p e. x.all p (sym (h p) ∙ e);
  only = λ p c. ⊎_elim (λ k. inl k) (λ k. inr (h p ∙ k)) (x.only p c);
}

-- a merge that is marked already
pub grown_marked : (ts : List Term) (ss : List Step) (ms : List Bool) (k : ℕ) → k < length ss → Whole ts ss ms → get_or ms k false ≡ true → Grown ts ss ms ms (basis ts ss k)
grown_marked ts ss ms k h w e = record
    { long = refl; kept = λ j e. e; whole = w; all = λ p b. w k p h e b; only = λ p c. inl c }

pub set_kept : (ms : List Bool) (k : ℕ) → k < length ms → (j : ℕ) → get_or ms j false ≡ true → get_or (set ms k true) j false ≡ true
set_kept ms k hm j e = ⊎_elim
    (λ (q : j ≡ k). ap (λ (x : ℕ). get_or (set ms k true) x false) q ∙ get_or-set_same ms k true false hm)
    (λ (q : j ≡ k → ⊥). get_or-set_other ms k j true false q ∙ e)
    (cases_eq j k)

-- one more mark, once what the merge rests on is covered
pub grown_mark : (ts : List Term) (ss : List Step) (ms : List Bool) (k : ℕ) → k < length ss → k < length ms → Whole ts ss ms
    → ((p : ℕ) → basis ts ss k p ≡ true → Covered ss (set ms k true) p) → Grown ts ss ms (set ms k true) (basis ts ss k)
grown_mark ts ss ms k h hm w all = record {
  long = length-set ms k true;
  kept = set_kept ms k hm;
  whole = λ j p j< e b. ⊎_elim
      (λ (q : j ≡ k). all p (subst (λ (x : ℕ). basis ts ss x p ≡ true) q b))
      (λ (q : j ≡ k → ⊥). covered_kept ss ms (set ms k true) (set_kept ms k hm) p (w j p j< (sym (get_or-set_other ms k j true false q) ∙ e) b))
      (cases_eq j k);
  all = all;
  only = λ p c. ⊎_elim
      (λ (q : c.0 ≡ k).
      let r : (step_at ss k).reason ≡ Asserted p = ap (λ (x : ℕ). (step_at ss x).reason) (sym q) ∙ c.3 in
      inr (ap (rests ts (needed ts (until ss k) p) p (step_at ss k)) r ∙ eq-eqb p p refl))
      (λ (q : c.0 ≡ k → ⊥). inl (c.0, c.1, sym (get_or-set_other ms k c.0 true false q) ∙ c.2, c.3))
      (cases_eq c.0 k);
}

-- what a merge that was asserted rests on
pub asserted_covers : (ts : List Term) (ss : List Step) (ms : List Bool) (k q : ℕ) → k < length ss → k < length ms → (step_at ss k).reason ≡ Asserted q
    → (p : ℕ) → basis ts ss k p ≡ true → Covered ss (set ms k true) p
asserted_covers ts ss ms k q h hm e p b =
    let x : q ≡ p = eqb-true q p (ap (rests ts (needed ts (until ss k) p) p (step_at ss k)) (sym e) ∙ b) in
    (k, h, get_or-set_same ms k true false hm, e ∙ ap Asserted x)

-- what a merge of congruent terms rests on
pub congruent_basis : (ts : List Term) (ss : List Step) (k : ℕ) → (step_at ss k).reason ≡ Congruence → (p : ℕ)
    → basis ts ss k p ≡ any_below (at ts (step_at ss k).left).arity
    (λ i. needed ts (until ss k) p (arg (at ts (step_at ss k).left) i) (arg (at ts (step_at ss k).right) i))
congruent_basis ts ss k e p = ap (rests ts (needed ts (until ss k) p) p (step_at ss k)) e

pub congruent_args : (ts : List Term) (ss : List Step) (k : ℕ) → (step_at ss k).reason ≡ Congruence → Rightful ts (λ p a b. Unit {0}) (label_at ss k) (step_at ss k)
    → Congruent ts (label_at ss k) (step_at ss k).left (step_at ss k).right
congruent_args ts ss k e r = subst (RestsOn ts (λ p a b. Unit {0}) (label_at ss k) (step_at ss k).left (step_at ss k).right) e r.rests_on

pub or_same : (x : Bool) → (x || x) ≡ x
or_same true = refl
or_same false = refl

or_turn : (x y : Bool) → (x || y) ≡ (y || x)
or_turn true true = refl
or_turn true false = refl
or_turn false true = refl
or_turn false false = refl

pub any_more : (n : ℕ) (f : ℕ → Bool) → any_below (n + 1) f ≡ (any_below n f || f n)
any_more n f = ap (λ (k : ℕ). any_below k f) (add-one n) ∙ or_turn (f n) (any_below n f)
