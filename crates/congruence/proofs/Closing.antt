-- A log of merges: what its labels keep, and that settling ends with a fit. Assumes nothing.
use Rattle.std.proofs.Common.{◌≡◌, ℕ, zero, suc, ◌+◌, ◌<◌, ◌≤◌, Bool, true, false, cond, not, ◌&&◌, eqb, ◌⊎◌, List, [], ◌∷◌, length, Some, None, Option, sym, refl, ap, ◌∙◌, subst, inl, inr, ⊎_elim, arith}
use Rattle.std.proofs.lemmas.Bool.{cases_lt, cases_eq, cases_Bool, eq-eqb, ne_eqb, eqb-true, eqb-false, cond-true, cond-false, and_parts, and_from, not-true, not_from_false}
use Rattle.theory.specs.declared.term.Term.{Term}
use Rattle.theory.specs.Terms.{at}
use Rattle.congruence.specs.declared.step.Step.{Step}
use Rattle.congruence.specs.declared.step.Reason.{Reason}
use Rattle.congruence.specs.declared.step.Reason.TheVariants.{Congruence}
use Rattle.congruence.specs.Table.{arg}
use Rattle.congruence.specs.Congruence.{Congruent, Fit}
use Rattle.congruence.specs.Merges.{relabel, label, merge, alike, twin_at, twin, merge_on, sweep, settle, join}
use Rattle.congruence.specs.Log.{RestsOn, Rightful, Logged}
use Rattle.congruence.proofs.Searches.{last_found, last_not_found, when_some, when_none, every_in, every_from}

pub relabel_here : (high low c : ℕ) → c ≡ high → relabel high low c ≡ low
relabel_here high low c e = cond-true (eqb c high) low c (eq-eqb c high e)

pub relabel_other : (high low c : ℕ) → (c ≡ high → ⊥) → relabel high low c ≡ c
relabel_other high low c n = cond-false (eqb c high) low c (ne_eqb c high n)

-- ---- the lowest label, and roots

module _ (ts : List Term) (Asserts : ℕ → ℕ → ℕ → Type 0) where
  pub label_low : (log : List Step) → Logged ts Asserts log → (t : ℕ) → label log t ≤ t
  label_low [] l t = omega arith
  label_low (s ∷ older) (r, l) t = ⊎_elim
      (λ (e : label older t ≡ s.high). omega (arith, relabel_here s.high s.low (label older t) e, label_low older l t, r.order))
      (λ (e : label older t ≡ s.high → ⊥). omega (arith, relabel_other s.high s.low (label older t) e, label_low older l t))
      (cases_eq (label older t) s.high)

  -- the two labels of a merge are roots
  ends_root : (num : ℕ → ℕ) (s : Step) → ((t : ℕ) → num (num t) ≡ num t) → Rightful ts Asserts num s
      → (num s.high ≡ s.high) × (num s.low ≡ s.low)
  ends_root num s root r = ⊎_elim
      (λ (x : (num s.left ≡ s.high) × (num s.right ≡ s.low)). (from s.left s.high x.0, from s.right s.low x.1))
      (λ (x : (num s.left ≡ s.low) × (num s.right ≡ s.high)). (from s.right s.high x.1, from s.left s.low x.0))
      r.ends
    where
      from : (t c : ℕ) → num t ≡ c → num c ≡ c
      from t c e = ap num (sym e) ∙ root t ∙ e

  pub label_root : (log : List Step) → Logged ts Asserts log → (t : ℕ) → label log (label log t) ≡ label log t
  label_root [] l t = refl
  label_root (s ∷ older) (r, l) t = ⊎_elim
      (λ (e : label older t ≡ s.high).
      let x : label (s ∷ older) t ≡ s.low = relabel_here s.high s.low (label older t) e in
      let y : label older s.low ≡ s.low = (ends_root (label older) s (label_root older l) r).1 in
      ap (label (s ∷ older)) x ∙ relabel_other s.high s.low (label older s.low) (λ z. omega (arith, r.order, y, z)) ∙ y ∙ sym x)
      (λ (e : label older t ≡ s.high → ⊥).
      let x : label (s ∷ older) t ≡ label older t = relabel_other s.high s.low (label older t) e in
      let y : label older (label older t) ≡ label older t = label_root older l t in
      ap (label (s ∷ older)) x ∙ relabel_other s.high s.low (label older (label older t)) (λ z. e (sym y ∙ z)) ∙ y ∙ sym x)
      (cases_eq (label older t) s.high)

  -- the higher label of a merge is that of a term
  high_in : (num : ℕ → ℕ) (s : Step) → ((t : ℕ) → num t ≤ t) → Rightful ts Asserts num s → s.high < length ts
  high_in num s low r = ⊎_elim
      (λ (x : (num s.left ≡ s.high) × (num s.right ≡ s.low)). omega (arith, x.0, low s.left, r.left_in))
      (λ (x : (num s.left ≡ s.low) × (num s.right ≡ s.high)). omega (arith, x.1, low s.right, r.right_in))
      r.ends

-- how many terms below `n` are their own labels
abbrev pub roots : (ℕ → ℕ) → ℕ → ℕ
roots num zero = 0
roots num (suc n) = cond (eqb (num n) n) 1 0 + roots num n

pub roots_few : (num : ℕ → ℕ) (n : ℕ) → roots num n ≤ n
roots_few num zero = omega arith
roots_few num (suc n) = ⊎_elim
    (λ (e : eqb (num n) n ≡ true). omega (arith, cond-true {A = ℕ} (eqb (num n) n) 1 0 e, roots_few num n))
    (λ (e : eqb (num n) n ≡ false). omega (arith, cond-false {A = ℕ} (eqb (num n) n) 1 0 e, roots_few num n))
    (cases_Bool (eqb (num n) n))

pub roots_some : (num : ℕ → ℕ) (n k : ℕ) → k < n → num k ≡ k → 0 < roots num n
roots_some num zero k h e = omega arith
roots_some num (suc n) k h e = ⊎_elim
    (λ (q : k ≡ n). omega (arith, cond-true {A = ℕ} (eqb (num n) n) 1 0 (eq-eqb (num n) n (subst (λ (x : ℕ). num x ≡ x) q e))))
    (λ (q : k ≡ n → ⊥). omega (arith, roots_some num n k (omega arith) e))
    (cases_eq k n)

roots_le : (num mun : ℕ → ℕ) (n : ℕ) → ((k : ℕ) → mun k ≡ k → num k ≡ k) → roots mun n ≤ roots num n
roots_le num mun zero h = omega arith
roots_le num mun (suc n) h = ⊎_elim
    (λ (e : mun n ≡ n). omega (arith, cond-true {A = ℕ} (eqb (mun n) n) 1 0 (eq-eqb (mun n) n e), cond-true {A = ℕ} (eqb (num n) n) 1 0 (eq-eqb (num n) n (h n e)), roots_le num mun n h))
    (λ (e : mun n ≡ n → ⊥). omega (arith, cond-false {A = ℕ} (eqb (mun n) n) 1 0 (ne_eqb (mun n) n e), roots_le num mun n h))
    (cases_eq (mun n) n)

roots_less : (num mun : ℕ → ℕ) (n high : ℕ) → ((k : ℕ) → mun k ≡ k → num k ≡ k) → high < n → num high ≡ high → (mun high ≡ high → ⊥)
    → roots mun n < roots num n
roots_less num mun zero high h lt a b = omega arith
roots_less num mun (suc n) high h lt a b = ⊎_elim
    (λ (q : high ≡ n).
    omega (
      arith,
      cond-false {A = ℕ} (eqb (mun n) n) 1 0 (ne_eqb (mun n) n (subst (λ (x : ℕ). mun x ≡ x → ⊥) q b)),
      cond-true {A = ℕ} (eqb (num n) n) 1 0 (eq-eqb (num n) n (subst (λ (x : ℕ). num x ≡ x) q a)),
      roots_le num mun n h,
    ))
    (λ (q : high ≡ n → ⊥). ⊎_elim
    (λ (e : mun n ≡ n). omega (arith, cond-true {A = ℕ} (eqb (mun n) n) 1 0 (eq-eqb (mun n) n e), cond-true {A = ℕ} (eqb (num n) n) 1 0 (eq-eqb (num n) n (h n e)), roots_less num mun n high h (omega arith) a b))
    (λ (e : mun n ≡ n → ⊥). omega (arith, cond-false {A = ℕ} (eqb (mun n) n) 1 0 (ne_eqb (mun n) n e), roots_less num mun n high h (omega arith) a b))
    (cases_eq (mun n) n))
    (cases_eq high n)

module _ (ts : List Term) (Asserts : ℕ → ℕ → ℕ → Type 0) where
  -- each merge takes one root away
  pub merge_falls : (s : Step) (older : List Step) → Logged ts Asserts (s ∷ older)
      → roots (label (s ∷ older)) (length ts) < roots (label older) (length ts)
  merge_falls s older (r, l) =
      roots_less (label older) (label (s ∷ older)) (length ts) s.high kept (high_in ts Asserts (label older) s (label_low ts Asserts older l) r)
      two.0 (λ e. omega (arith, sym e ∙ relabel_here s.high s.low (label older s.high) two.0, r.order))
    where
      two : (label older s.high ≡ s.high) × (label older s.low ≡ s.low)
      two = ends_root ts Asserts (label older) s (label_root ts Asserts older l) r

      kept : (k : ℕ) → label (s ∷ older) k ≡ k → label older k ≡ k
      kept k e = ⊎_elim
          (λ (q : label older k ≡ s.high).
          let x : s.low ≡ k = sym (relabel_here s.high s.low (label older k) q) ∙ e in
          subst (λ (y : ℕ). label older y ≡ y) x two.1)
          (λ (q : label older k ≡ s.high → ⊥). sym (relabel_other s.high s.low (label older k) q) ∙ e)
          (cases_eq (label older k) s.high)

  -- one more merge, of two terms with different labels
  pub merged : (log : List Step) (a b : ℕ) (reason : Reason) → Logged ts Asserts log → a < length ts → b < length ts
      → (label log a ≡ label log b → ⊥) → RestsOn ts Asserts (label log) a b reason → Logged ts Asserts (merge log a b reason ∷ log)
  merged log a b reason l ha hb ne r = (
    record {
      left_in = ha;
      right_in = hb;
      order = omega arith;
      ends = ⊎_elim (λ (h : label log a < label log b). inr (omega arith, omega arith)) (λ (h : label log b ≤ label log a). inl (omega arith, omega arith))
          (cases_lt (label log a) (label log b));
      rests_on = r;
    },
    l,
  )

  -- the two terms of a merge get one label
  pub merge_joins : (s : Step) (older : List Step) → Rightful ts Asserts (label older) s → label (s ∷ older) s.left ≡ label (s ∷ older) s.right
  merge_joins s older r = ⊎_elim
      (λ (x : (label older s.left ≡ s.high) × (label older s.right ≡ s.low)).
      relabel_here s.high s.low (label older s.left) x.0 ∙ sym x.1
      ∙ sym (relabel_other s.high s.low (label older s.right) (λ e. omega (arith, e, x.1, r.order))))
      (λ (x : (label older s.left ≡ s.low) × (label older s.right ≡ s.high)).
      relabel_other s.high s.low (label older s.left) (λ e. omega (arith, e, x.0, r.order)) ∙ x.0
      ∙ sym (relabel_here s.high s.low (label older s.right) x.1))
      r.ends

-- ---- congruent terms

pub alike_true : (ts : List Term) (num : ℕ → ℕ) (t u : ℕ) → alike ts num t u ≡ true → Congruent ts num t u
alike_true ts num t u e =
    let x = and_parts (eqb (at ts t).symbol (at ts u).symbol) _ e in
    let y = and_parts (eqb (at ts t).arity (at ts u).arity) _ x.1 in (
      eqb-true (at ts t).symbol (at ts u).symbol x.0,
      eqb-true (at ts t).arity (at ts u).arity y.0,
      λ i h. eqb-true (num (arg (at ts t) i)) (num (arg (at ts u) i)) (every_in (at ts t).arity _ y.1 i h),
    )

pub alike_from : (ts : List Term) (num : ℕ → ℕ) (t u : ℕ) → Congruent ts num t u → alike ts num t u ≡ true
alike_from ts num t u (s, a, args) =
    and_from _ _ (eq-eqb (at ts t).symbol (at ts u).symbol s)
    (and_from _ _ (eq-eqb (at ts t).arity (at ts u).arity a)
    (every_from (at ts t).arity _ (λ i h. eq-eqb (num (arg (at ts t) i)) (num (arg (at ts u) i)) (args i h))))

congruent_sym : (ts : List Term) (num : ℕ → ℕ) (t u : ℕ) → Congruent ts num t u → Congruent ts num u t
congruent_sym ts num t u (s, a, args) = (sym s, sym a, λ i h. sym (args i (omega (arith, a, h))))

-- what is found for a term is an earlier one that is congruent to it and has another label
pub record Pending (ts : List Term) (num : ℕ → ℕ) (t u : ℕ) : Type 0 where
  pub earlier : u < t
  pub apart : num t ≡ num u → ⊥
  pub congruent : Congruent ts num t u

pub twin_some : (ts : List Term) (num : ℕ → ℕ) (t u : ℕ) → twin ts num t ≡ Some u → Pending ts num t u
twin_some ts num t u e =
    let w = last_found t (twin_at ts num t) u e in
    let h = when_some (not (eqb (num t) (num w.0)) && alike ts num t w.0) w.0 u w.2 in
    let x = and_parts (not (eqb (num t) (num w.0))) (alike ts num t w.0) h.0 in
    let here : Pending ts num t w.0 = record {
      earlier = w.1;
      apart = eqb-false (num t) (num w.0) (not-true (eqb (num t) (num w.0)) x.0);
      congruent = alike_true ts num t w.0 x.1;
    } in
    subst (Pending ts num t) h.1 here

-- where nothing is found for any term, the labels are a fit
pub twins_none : (ts : List Term) (num : ℕ → ℕ) → ((t : ℕ) → t < length ts → twin ts num t ≡ None) → Fit ts num
twins_none ts num none t u ht hu c = ⊎_elim
    (λ (h : t < u). sym (ordered u t hu h (congruent_sym ts num t u c)))
    (λ (h : u ≤ t). ⊎_elim (λ (q : t ≡ u). ap num q) (λ (q : t ≡ u → ⊥). ordered t u ht (omega arith) c) (cases_eq t u))
    (cases_lt t u)
  where
    ordered : (t u : ℕ) → t < length ts → u < t → Congruent ts num t u → num t ≡ num u
    ordered t u ht h c =
        let y = when_none _ _ (last_not_found t (twin_at ts num t) (none t ht) u h) in
        ⊎_elim
        (λ (q : eqb (num t) (num u) ≡ true). eqb-true (num t) (num u) q)
        (λ (q : eqb (num t) (num u) ≡ false).
        let z : true ≡ false = sym (and_from _ _ (not_from_false (eqb (num t) (num u)) q) (alike_from ts num t u c)) ∙ y in cc)
        (cases_Bool (eqb (num t) (num u)))

-- ---- sweeping

-- a sweep keeps a log rightful; it merges nothing, and then no term has a twin, or it takes roots away
pub record Swept (ts : List Term) (Asserts : ℕ → ℕ → ℕ → Type 0) (n : ℕ) (before after : List Step) : Type 0 where
  pub logged : Logged ts Asserts after
  pub stays : (x y : ℕ) → label before x ≡ label before y → label after x ≡ label after y
  pub moved : ((after ≡ before) × ((t : ℕ) → t < n → twin ts (label before) t ≡ None)) ⊎ (roots (label after) (length ts) < roots (label before) (length ts))

pub sweeps : (ts : List Term) (Asserts : ℕ → ℕ → ℕ → Type 0) (n : ℕ) (log : List Step) → n ≤ length ts → Logged ts Asserts log
    → Swept ts Asserts n log (sweep ts n log)
unfolding sweep
sweeps ts Asserts zero log h l = record { logged = l; stays = λ x y e. e; moved = inl (refl, λ t lt. absurd (omega arith)) }
sweeps ts Asserts (suc n) log h l = go (sweeps ts Asserts n log (omega arith) l) (twin ts (label (sweep ts n log)) n) refl
  where
    go : Swept ts Asserts n log (sweep ts n log) → (o : Option ℕ) → twin ts (label (sweep ts n log)) n ≡ o
        → Swept ts Asserts (suc n) log (merge_on (sweep ts n log) n o)
    go w None e = record {
      logged = w.logged;
      stays = w.stays;
      moved = ⊎_elim
          (λ (x : (sweep ts n log ≡ log) × ((t : ℕ) → t < n → twin ts (label log) t ≡ None)).
          inl (
            x.0,
            λ t lt. ⊎_elim
                (λ (q : t ≡ n). ap (twin ts (label log)) q ∙ ap (λ (g : List Step). twin ts (label g) n) (sym x.0) ∙ e)
                (λ (q : t ≡ n → ⊥). x.1 t (omega arith))
                (cases_eq t n),
          ))
          (λ x. inr x)
          w.moved;
    }
    go w (Some u) e =
        let q = twin_some ts (label (sweep ts n log)) n u e in
        let s : Step = merge (sweep ts n log) n u Congruence in
        let m : Logged ts Asserts (s ∷ sweep ts n log) = merged ts Asserts (sweep ts n log) n u Congruence w.logged (omega arith) (omega (arith, q.earlier)) q.apart q.congruent in
        let f = merge_falls ts Asserts s (sweep ts n log) m in
        record {
          logged = m;
          stays = λ x y k. ap (relabel s.high s.low) (w.stays x y k);
          moved = inr (⊎_elim
              (λ (x : (sweep ts n log ≡ log) × ((t : ℕ) → t < n → twin ts (label log) t ≡ None)).
              subst (λ (g : List Step). roots (label (s ∷ sweep ts n log)) (length ts) < roots (label g) (length ts)) x.0 f)
              (λ (x : roots (label (sweep ts n log)) (length ts) < roots (label log) (length ts)). omega (arith, x, f))
              w.moved);
        }

-- a log that a sweep leaves is left by all
pub settle_still : (ts : List Term) (k : ℕ) (log : List Step) → sweep ts (length ts) log ≡ log → settle ts k log ≡ log
unfolding settle
settle_still ts zero log e = refl
settle_still ts (suc k) log e = ap (settle ts k) e ∙ settle_still ts k log e

-- ---- settling

-- a log that grew until its labels are a fit
pub record Settled (ts : List Term) (Asserts : ℕ → ℕ → ℕ → Type 0) (before after : List Step) : Type 0 where
  pub logged : Logged ts Asserts after
  pub fit : Fit ts (label after)
  pub stays : (x y : ℕ) → label before x ≡ label before y → label after x ≡ label after y

pub settles : (ts : List Term) (Asserts : ℕ → ℕ → ℕ → Type 0) (k : ℕ) (log : List Step) → Logged ts Asserts log
    → roots (label log) (length ts) ≤ k → Settled ts Asserts log (settle ts k log)
unfolding settle
settles ts Asserts zero log l h = record {
  logged = l;
  fit = λ t u ht hu c. absurd (omega (
    arith,
    h,
    roots_some (label log) (length ts) (label log t) (omega (arith, label_low ts Asserts log l t)) (label_root ts Asserts log l t),
  ));
  stays = λ x y e. e;
}
settles ts Asserts (suc k) log l h = ⊎_elim
    (λ (x : (sweep ts (length ts) log ≡ log) × ((t : ℕ) → t < length ts → twin ts (label log) t ≡ None)).
    let still : settle ts k (sweep ts (length ts) log) ≡ log = ap (settle ts k) x.0 ∙ settle_still ts k log x.0 in
    subst (Settled ts Asserts log) (sym still) (record { logged = l; fit = twins_none ts (label log) x.1; stays = λ x y q. q }))
    (λ (x : roots (label (sweep ts (length ts) log)) (length ts) < roots (label log) (length ts)).
    let r = settles ts Asserts k (sweep ts (length ts) log) w.logged (omega (arith, x, h)) in
    record { logged = r.logged; fit = r.fit; stays = λ x y q. r.stays x y (w.stays x y q) })
    w.moved
  where
    w : Swept ts Asserts (length ts) log (sweep ts (length ts) log)
    w = sweeps ts Asserts (length ts) log (omega arith) l

-- two terms get one label, for a reason
pub joins : (ts : List Term) (Asserts : ℕ → ℕ → ℕ → Type 0) (a b : ℕ) (reason : Reason) (log : List Step) → Logged ts Asserts log → Fit ts (label log)
    → a < length ts → b < length ts → RestsOn ts Asserts (label log) a b reason
    → Settled ts Asserts log (join ts a b reason log) × (label (join ts a b reason log) a ≡ label (join ts a b reason log) b)
joins ts Asserts a b reason log l fit ha hb r = go (eqb (label log a) (label log b)) refl
  where
    go : (c : Bool) → eqb (label log a) (label log b) ≡ c
        → Settled ts Asserts log (cond c log (settle ts (length ts) (merge log a b reason ∷ log)))
        × (label (cond c log (settle ts (length ts) (merge log a b reason ∷ log))) a ≡ label (cond c log (settle ts (length ts) (merge log a b reason ∷ log))) b)
    go true e = (record { logged = l; fit = fit; stays = λ x y q. q }, eqb-true (label log a) (label log b) e)
    go false e =
        let s : Step = merge log a b reason in
        let m : Logged ts Asserts (s ∷ log) = merged ts Asserts log a b reason l ha hb (eqb-false (label log a) (label log b) e) r in
        let w = settles ts Asserts (length ts) (s ∷ log) m (roots_few (label (s ∷ log)) (length ts)) in (
          record { logged = w.logged; fit = w.fit; stays = λ x y q. w.stays x y (ap (relabel s.high s.low) q) },
          w.stays a b (merge_joins ts Asserts s log m.0),
        )
