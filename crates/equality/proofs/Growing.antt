-- A row of merges that grows or is cut, with its labels. Assumes nothing.
use Rattle.std.proofs.Common.{◌≡◌, ℕ, zero, suc, ◌+◌, ◌<◌, ◌≤◌, min, max, List, [], ◌∷◌, ◌++◌, length, take, sym, refl, ap, ◌∙◌, subst, ⊎_elim, add-one, arith, get_or-take}
use Rattle.std.proofs.lemmas.Bool.{cases_eq, cases_lt}
use Rattle.std.proofs.lemmas.List.{get_or_push, get_or_append_left, length_push, length-take-le}
use Rattle.theory.specs.declared.term.Term.{Term}
use Rattle.congruence.specs.declared.step.Step.{Step}
use Rattle.congruence.specs.declared.step.Reason.{Reason}
use Rattle.congruence.specs.Merges.{relabel, label, merge, pass, sweep, settle}
use Rattle.congruence.specs.Log.{RestsOn, Rightful, Formed}
use Rattle.congruence.proofs.Closing.{roots, roots_few, roots_some, relabel_other, merge_falls, merged, label_low, label_root, settle_still}
use Rattle.equality.specs.Logs.{step_at, until, log, label_at, cell, Tabled, Own, Renamed, Ran}

-- ---- one more merge in the row

until_push : (ss : List Step) (s : Step) (j : ℕ) → j ≤ length ss → until (ss ++ s ∷ []) j ≡ until ss j
until_push ss s zero h = refl
until_push ss s (suc j) h =
    ap (λ (x : Step). x ∷ until (ss ++ s ∷ []) j) (get_or_append_left ss (s ∷ []) _ j (omega arith)) ∙ ap (λ (xs : List Step). step_at ss j ∷ xs) (until_push ss s j (omega arith))

log_push : (ss : List Step) (s : Step) → log (ss ++ s ∷ []) ≡ s ∷ log ss
log_push ss s =
    ap (until (ss ++ s ∷ [])) (length_push ss s ∙ add-one (length ss))
    ∙ ap (λ (x : Step). x ∷ until (ss ++ s ∷ []) (length ss)) (get_or_push ss s _ (length ss) refl) ∙ ap (λ (xs : List Step). s ∷ xs) (until_push ss s (length ss) (omega arith))

module _ (m : ℕ) (rows rows' : List (List ℕ)) (ss : List Step) (s : Step) (room : length ss + 1 < length rows) (tabled : Tabled rows ss) (own : Own m rows) (below : s.high < m)
    (w : Renamed rows rows' (length ss) m s.high s.low) where
  -- the labels after one more merge
  new_row : (t : ℕ) → t < 256 → cell rows' (length ss + 1) t ≡ relabel s.high s.low (label_at ss (length ss) t)
  new_row t few =
      let before : cell rows (length ss) t ≡ label_at ss (length ss) t = tabled (length ss) t (omega arith) few in
      ⊎_elim
      (λ (l : t < m). w.written t l ∙ ap (relabel s.high s.low) before)
      (λ (l : m ≤ t).
      w.beyond t l ∙ own (length ss + 1) t room l few
      ∙ sym (ap (relabel s.high s.low) (sym before ∙ own (length ss) t (omega (arith, room)) l few) ∙ relabel_other s.high s.low t (λ e. omega (arith, e, below, l))))
      (cases_lt t m)

  tabled_more : Tabled rows' (ss ++ s ∷ [])
  tabled_more k t h few = ⊎_elim
      (λ (q : k ≡ length ss + 1).
      ap (λ (j : ℕ). cell rows' j t) q ∙ new_row t few
      ∙ sym (ap (λ (l : List Step). label l t) (ap (until (ss ++ s ∷ [])) (q ∙ sym (length_push ss s)) ∙ log_push ss s)))
      (λ (q : k ≡ length ss + 1 → ⊥).
      let low : k ≤ length ss = omega (arith, length_push ss s) in
      w.kept k t q ∙ tabled k t low few ∙ ap (λ (l : List Step). label l t) (sym (until_push ss s k low)))
      (cases_eq k (length ss + 1))

  own_more : Own m rows'
  own_more k t l past few = ⊎_elim
      (λ (q : k ≡ length ss + 1). ap (λ (j : ℕ). cell rows' j t) q ∙ w.beyond t past ∙ own (length ss + 1) t room past few)
      (λ (q : k ≡ length ss + 1 → ⊥). w.kept k t q ∙ own k t (omega (arith, l, w.long)) past few)
      (cases_eq k (length ss + 1))

-- a row of merges with one more
pub record Pushed (ts : List Term) (ss rs : List Step) (rows : List (List ℕ)) (a b : ℕ) (reason : Reason) : Type 0 where
  pub ran : Ran ss rs (merge (log ss) a b reason ∷ log ss)
  pub formed : Formed ts (log rs)
  pub tabled : Tabled rows rs
  pub own : Own (length ts) rows
  pub more : length rs ≡ length ss + 1

pub pushed : (ts : List Term) (ss rs : List Step) (rows rows' : List (List ℕ)) (a b high low : ℕ) (reason : Reason)
    → rs ≡ ss ++ record { left = a; right = b; high = high; low = low; reason = reason } ∷ [] → Renamed rows rows' (length ss) (length ts) high low
    → Formed ts (log ss) → length ss + 1 < length rows → Tabled rows ss → Own (length ts) rows → a < length ts → b < length ts
    → (label (log ss) a ≡ label (log ss) b → ⊥) → RestsOn ts (λ p x y. Unit {0}) (label (log ss)) a b reason
    → high ≡ max (label (log ss) a) (label (log ss) b) → low ≡ min (label (log ss) a) (label (log ss) b)
    → Pushed ts ss rs rows' a b reason
pushed ts ss rs rows rows' a b high low reason er w formed room tabled own ha hb apart rests hi lo =
    subst (λ (x : List Step). Pushed ts ss x rows' a b reason) (sym er) (record {
      ran = record { log_is = grown; before = until_push ss s; rise = omega (arith, length_push ss s) };
      formed = subst (Formed ts) (sym grown) (merged ts (λ p x y. Unit {0}) (log ss) a b reason formed ha hb apart rests);
      tabled = tabled_more (length ts) rows rows' ss s room tabled own below w;
      own = own_more (length ts) rows rows' ss s room tabled own below w;
      more = length_push ss s;
    })
  where
    s : Step
    s = record { left = a; right = b; high = high; low = low; reason = reason }

    below : high < length ts
    below = omega (arith, hi, ha, hb, label_low ts (λ p x y. Unit {0}) (log ss) formed a, label_low ts (λ p x y. Unit {0}) (log ss) formed b)

    grown : log (ss ++ s ∷ []) ≡ merge (log ss) a b reason ∷ log ss
    grown = log_push ss s ∙ ap (λ (x : Step). x ∷ log ss)
        (ap (λ (x : ℕ). record { left = a; right = b; high = x; low = low; reason = reason }) hi
        ∙ ap (λ (x : ℕ). record { left = a; right = b; high = max (label (log ss) a) (label (log ss) b); low = x; reason = reason }) lo)

-- ---- fewer merges

pub until_take : (ss : List Step) (k j : ℕ) → j ≤ k → until (take k ss) j ≡ until ss j
until_take ss k zero h = refl
until_take ss k (suc j) h =
    ap (λ (x : Step). x ∷ until (take k ss) j) (get_or-take k ss j _ (omega arith)) ∙ ap (λ (xs : List Step). step_at ss j ∷ xs) (until_take ss k j (omega arith))

-- a log that is formed is so up to each merge, and each merge is rightful
pub formed_at : (ts : List Term) (ss : List Step) (n k : ℕ) → k < n → Formed ts (until ss n)
    → Rightful ts (λ p a b. Unit {0}) (label_at ss k) (step_at ss k) × Formed ts (until ss k)
formed_at ts ss zero k h f = absurd (omega arith)
formed_at ts ss (suc n) k h f = ⊎_elim
    (λ (e : k ≡ n). subst (λ (x : ℕ). Rightful ts (λ p a b. Unit {0}) (label_at ss x) (step_at ss x) × Formed ts (until ss x)) (sym e) f)
    (λ (e : k ≡ n → ⊥). formed_at ts ss n k (omega arith) f.1)
    (cases_eq k n)

formed_upto : (ts : List Term) (ss : List Step) (k : ℕ) → k ≤ length ss → Formed ts (log ss) → Formed ts (until ss k)
formed_upto ts ss k h f = ⊎_elim
    (λ (e : k ≡ length ss). subst (λ (x : ℕ). Formed ts (until ss x)) (sym e) f)
    (λ (e : k ≡ length ss → ⊥). (formed_at ts ss (length ss) k (omega arith) f).1)
    (cases_eq k (length ss))

-- a row of merges that was cut
pub record Cut (ts : List Term) (ss rs : List Step) (rows : List (List ℕ)) (k : ℕ) : Type 0 where
  pub before : (j : ℕ) → j ≤ k → until rs j ≡ until ss j
  pub formed : Formed ts (log rs)
  pub tabled : Tabled rows rs
  pub long : length rs ≡ k

pub cut : (ts : List Term) (ss rs : List Step) (rows : List (List ℕ)) (k : ℕ) → rs ≡ take k ss → k ≤ length ss
    → Formed ts (log ss) → Tabled rows ss → Cut ts ss rs rows k
cut ts ss rs rows k er h formed tabled =
    subst (λ (x : List Step). Cut ts ss x rows k) (sym er) (record {
      before = until_take ss k;
      formed = subst (Formed ts) (sym (ap (until (take k ss)) left ∙ until_take ss k k (omega arith))) (formed_upto ts ss k h formed);
      tabled = λ j t a few. tabled j t (omega (arith, a, left, h)) few ∙ ap (λ (l : List Step). label l t) (sym (until_take ss k j (omega (arith, a, left))));
      long = left;
    })
  where
    left : length (take k ss) ≡ k
    left = length-take-le k ss h

-- ---- room

-- each merge takes a label away, so that there are fewer merges than terms
few_merges : (ts : List Term) (ss : List Step) (n : ℕ) → Formed ts (until ss n) → n + roots (label (until ss n)) (length ts) ≤ length ts
few_merges ts ss zero f = omega (arith, roots_few (label []) (length ts))
few_merges ts ss (suc n) f = omega (arith, few_merges ts ss n f.1, merge_falls ts (λ p a b. Unit {0}) (step_at ss n) (until ss n) f)

pub merges_few : (ts : List Term) (ss : List Step) → Formed ts (log ss) → length ss ≤ length ts
merges_few ts ss f = omega (arith, few_merges ts ss (length ss) f)

pub merges_room : (ts : List Term) (ss : List Step) (t : ℕ) → Formed ts (log ss) → t < length ts → length ss < length ts
merges_room ts ss t f h =
    omega (
      arith,
      few_merges ts ss (length ss) f,
      roots_some (label (log ss)) (length ts) (label (log ss) t) (omega (arith, label_low ts (λ p a b. Unit {0}) (log ss) f t)) (label_root ts (λ p a b. Unit {0}) (log ss) f t),
    )

-- ---- growing

pub ran_still : (ss : List Step) → Ran ss ss (log ss)
ran_still ss = record { log_is = refl; before = λ j h. refl; rise = omega arith }

pub ran_on : (ss rs qs mid to : List Step) → Ran ss rs mid → Ran rs qs to → Ran ss qs to
ran_on ss rs qs mid to x y = record {
  log_is = y.log_is;
  before = λ j h. y.before j (omega (arith, h, x.rise)) ∙ x.before j h;
  rise = omega (arith, x.rise, y.rise);
}

pub sweep_none : (ts : List Term) (ss : List Step) → Ran ss ss (sweep ts 0 (log ss))
unfolding sweep
sweep_none ts ss = ran_still ss

pub sweep_more : (ts us : List Term) (t : ℕ) (ss rs qs : List Step) → us ≡ ts → Ran ss rs (sweep ts t (log ss)) → Ran rs qs (pass us t (log rs)) → Ran ss qs (sweep ts (t + 1) (log ss))
unfolding sweep
sweep_more ts us t ss rs qs e x y =
    subst (Ran ss qs) (ap (λ (vs : List Term). pass vs t (log rs)) e ∙ ap (pass ts t) x.log_is ∙ ap (λ (k : ℕ). sweep ts k (log ss)) (sym (add-one t)))
    (ran_on ss rs qs _ _ x y)

-- what is left to settle comes to the same
pub record Settling (ts : List Term) (left : ℕ) (ss rs : List Step) : Type 0 where
  pub ran : Ran ss rs (log rs)
  pub same : settle ts (length ts) (log ss) ≡ settle ts left (log rs)

pub settle_start : (ts : List Term) (left : ℕ) (ss : List Step) → left ≡ length ts → Settling ts left ss ss
settle_start ts left ss e = record { ran = ran_still ss; same = ap (λ (k : ℕ). settle ts k (log ss)) (sym e) }

pub settle_more : (ts us : List Term) (left now : ℕ) (ss rs qs : List Step) → us ≡ ts → left ≡ now + 1 → Settling ts left ss rs → Ran rs qs (sweep us (length us) (log rs)) → Settling ts now ss qs
unfolding settle
settle_more ts us left now ss rs qs e n x y =
    let z : Ran rs qs (sweep ts (length ts) (log rs)) = subst (λ (vs : List Term). Ran rs qs (sweep vs (length vs) (log rs))) e y in
    record {
      ran = ran_on ss rs qs _ _ x.ran (subst (Ran rs qs) (sym z.log_is) z);
      same = x.same ∙ ap (λ (k : ℕ). settle ts k (log rs)) (n ∙ add-one now) ∙ ap (settle ts now) (sym z.log_is);
    }

-- a sweep that merged nothing left the log
pub settle_still_by : (ts us : List Term) (left : ℕ) (ss rs qs : List Step) → us ≡ ts → length qs ≡ length rs → Settling ts left ss rs → Ran rs qs (sweep us (length us) (log rs))
    → Ran ss qs (settle ts (length ts) (log ss))
settle_still_by ts us left ss rs qs e n x y =
    let z : Ran rs qs (sweep ts (length ts) (log rs)) = subst (λ (vs : List Term). Ran rs qs (sweep vs (length vs) (log rs))) e y in
    let still : log qs ≡ log rs = ap (until qs) n ∙ z.before (length rs) (omega arith) in
    subst (Ran ss qs) (still ∙ sym (x.same ∙ settle_still ts left (log rs) (sym z.log_is ∙ still))) (ran_on ss rs qs _ _ x.ran (subst (Ran rs qs) (sym z.log_is) z))

pub settle_end : (ts : List Term) (left : ℕ) (ss rs : List Step) → left ≡ 0 → Settling ts left ss rs → Ran ss rs (settle ts (length ts) (log ss))
unfolding settle
settle_end ts left ss rs e x = subst (Ran ss rs) (sym (x.same ∙ ap (λ (k : ℕ). settle ts k (log rs)) e)) x.ran
