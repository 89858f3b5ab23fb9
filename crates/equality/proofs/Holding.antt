-- What the state keeps, over its parts: one literal more, or fewer. Assumes nothing.
use Rattle.std.proofs.Common.{◌≡◌, ℕ, ◌+◌, ◌≤◌, List, [], ◌∷◌, ◌++◌, length, get_or, take, vec_items, sym, refl, ap, ◌∙◌, subst, ⊎_elim, arith, get_or-take}
use Rattle.std.proofs.lemmas.Bool.{cases_eq}
use Rattle.std.proofs.lemmas.List.{get_or_append_left, get_or_push, length-take-le, length_push}
use Rattle.theory.specs.declared.term.Term.{Term}
use Rattle.theory.specs.Literals.{Proper}
use Rattle.theory.specs.Asserted.{literals_of}
use Rattle.theory.proofs.Claims.{proper_take, proper_few}
use Rattle.congruence.specs.declared.claim.Claim.{Claim}
use Rattle.congruence.specs.declared.step.Step.{Step}
use Rattle.congruence.specs.Merges.{absorb, log_at, log_of}
use Rattle.congruence.proofs.Law.{log_at_same, log_at_more}
use Rattle.equality.specs.declared.state.Equality.{Equality}
use Rattle.equality.specs.Logs.{until, log, Ran}

pub record Held (ts : List Term) (claims : List Claim) (list merges : List ℕ) (ss : List Step) : Type 0 where
  pub proper : Proper (length claims) list
  pub merges_long : length merges ≡ length list + 1
  pub rising : (j k : ℕ) → j ≤ k → k ≤ length list → get_or merges j 0 ≤ get_or merges k 0
  pub logged : (k : ℕ) → k ≤ length list → until ss (get_or merges k 0) ≡ log_at ts claims list k
  pub latest : get_or merges (length list) 0 ≡ length ss

pub held : (s : Equality) → Held s.closure.terms.records.now s.claims.now (literals_of s.list) (vec_items s.merges) (vec_items s.closure.steps)
held s = record {
  proper = subst (λ (n : ℕ). Proper n (literals_of s.list)) s.list_claims s.list.proper;
  merges_long = s.merges_long;
  rising = s.rising;
  logged = s.logged;
  latest = s.latest;
}

module _ (ts : List Term) (claims : List Claim) (list merges : List ℕ) (ss : List Step) (h : Held ts claims list merges ss) where
  -- the merges are those of the list
  pub held_log : log ss ≡ log_of ts claims list
  held_log = ap (until ss) (sym h.latest) ∙ h.logged (length list) (omega arith)

  -- there are no more literals than claims
  pub held_few : length list ≤ length claims
  held_few = proper_few (length claims) list h.proper

  -- fewer literals
  module _ (us : List Term) (k : ℕ) (list' merges' : List ℕ) (rs : List Step) (same : us ≡ ts) (low : k ≤ length list) (el : list' ≡ take k list) (em : merges' ≡ take (k + 1) merges)
      (before : (j : ℕ) → j ≤ get_or merges k 0 → until rs j ≡ until ss j) (long : length rs ≡ get_or merges k 0) where
    size : length (take k list) ≡ k
    size = length-take-le k list low

    at : (j : ℕ) → j ≤ k → get_or (take (k + 1) merges) j 0 ≡ get_or merges j 0
    at j a = get_or-take (k + 1) merges j 0 (omega arith)

    base : Held ts claims (take k list) (take (k + 1) merges) rs
    base = record {
      proper = proper_take (length claims) k list h.proper;
      merges_long = length-take-le (k + 1) merges (omega (arith, h.merges_long)) ∙ ap (λ (n : ℕ). n + 1) (sym size);
      rising = λ i j a b. omega (arith, at i (omega (arith, size)), at j (omega (arith, size)), h.rising i j a (omega (arith, size)));
      logged = λ j a.
          ap (until rs) (at j (omega (arith, size))) ∙ before (get_or merges j 0) (h.rising j k (omega (arith, size)) low) ∙ h.logged j (omega (arith, size))
          ∙ log_at_same ts claims list (take k list) j (λ p b. sym (get_or-take k list p 0 (omega (arith, size))));
      latest = ap (λ (n : ℕ). get_or (take (k + 1) merges) n 0) size ∙ at k (omega arith) ∙ sym long;
    }

    pub held_cut : Held us claims list' merges' rs
    held_cut =
        subst (λ (t : List Term). Held t claims list' merges' rs) (sym same)
        (subst (λ (x : List ℕ). Held ts claims x merges' rs) (sym el) (subst (λ (x : List ℕ). Held ts claims (take k list) x rs) (sym em) base))

  -- one literal more
  module _ (us : List Term) (l : ℕ) (list' merges' : List ℕ) (rs : List Step) (same : us ≡ ts) (grown : Proper (length claims) list')
      (el : list' ≡ list ++ l ∷ []) (em : merges' ≡ merges ++ length rs ∷ []) (ran : Ran ss rs (absorb ts claims (length list) l (log ss))) where
    wide : length (list ++ l ∷ []) ≡ length list + 1
    wide = length_push list l

    before_same : (k : ℕ) → k ≤ length list → get_or (merges ++ length rs ∷ []) k 0 ≡ get_or merges k 0
    before_same k a = get_or_append_left merges (length rs ∷ []) 0 k (omega (arith, h.merges_long))

    here : get_or (merges ++ length rs ∷ []) (length list + 1) 0 ≡ length rs
    here = get_or_push merges (length rs) 0 (length list + 1) h.merges_long

    same_log : (k : ℕ) → k ≤ length list → log_at ts claims list k ≡ log_at ts claims (list ++ l ∷ []) k
    same_log k a = log_at_same ts claims list (list ++ l ∷ []) k (λ p b. sym (get_or_append_left list (l ∷ []) 0 p (omega arith)))

    logged_more : (k : ℕ) → k ≤ length list + 1 → until rs (get_or (merges ++ length rs ∷ []) k 0) ≡ log_at ts claims (list ++ l ∷ []) k
    logged_more k a = ⊎_elim
        (λ (e : k ≡ length list + 1).
        ap (λ (j : ℕ). until rs (get_or (merges ++ length rs ∷ []) j 0)) e ∙ ap (until rs) here ∙ ran.log_is
        ∙ ap (absorb ts claims (length list) l) (held_log ∙ same_log (length list) (omega arith))
        ∙ ap (λ (x : ℕ). absorb ts claims (length list) x (log_at ts claims (list ++ l ∷ []) (length list))) (sym (get_or_push list l 0 (length list) refl))
        ∙ log_at_more ts claims (list ++ l ∷ []) (length list) ∙ ap (log_at ts claims (list ++ l ∷ [])) (sym e))
        (λ (e : k ≡ length list + 1 → ⊥).
        ap (until rs) (before_same k (omega arith)) ∙ ran.before (get_or merges k 0) (omega (arith, h.rising k (length list) (omega arith) (omega arith), h.latest))
        ∙ h.logged k (omega arith) ∙ same_log k (omega arith))
        (cases_eq k (length list + 1))

    rising_more : (j k : ℕ) → j ≤ k → k ≤ length list + 1 → get_or (merges ++ length rs ∷ []) j 0 ≤ get_or (merges ++ length rs ∷ []) k 0
    rising_more j k a b = ⊎_elim
        (λ (e : k ≡ length list + 1). ⊎_elim
        (λ (f : j ≡ length list + 1). omega (arith, ap (λ (x : ℕ). get_or (merges ++ length rs ∷ []) x 0) (f ∙ sym e)))
        (λ (f : j ≡ length list + 1 → ⊥).
        omega (arith, ap (λ (x : ℕ). get_or (merges ++ length rs ∷ []) x 0) e, here, before_same j (omega arith), h.rising j (length list) (omega arith) (omega arith), h.latest, ran.rise))
        (cases_eq j (length list + 1)))
        (λ (e : k ≡ length list + 1 → ⊥). omega (arith, before_same j (omega arith), before_same k (omega arith), h.rising j k a (omega arith)))
        (cases_eq k (length list + 1))

    more : Held ts claims (list ++ l ∷ []) (merges ++ length rs ∷ []) rs
    more = record {
      proper = subst (Proper (length claims)) el grown;
      merges_long = length_push merges (length rs) ∙ ap (λ (n : ℕ). n + 1) (h.merges_long ∙ sym wide);
      rising = λ j k a b. rising_more j k a (omega (arith, wide));
      logged = λ k a. logged_more k (omega (arith, wide));
      latest = ap (λ (n : ℕ). get_or (merges ++ length rs ∷ []) n 0) wide ∙ here;
    }

    pub held_push : Held us claims list' merges' rs
    held_push =
        subst (λ (t : List Term). Held t claims list' merges' rs) (sym same)
        (subst (λ (x : List ℕ). Held ts claims x merges' rs) (sym el) (subst (λ (x : List ℕ). Held ts claims (list ++ l ∷ []) x rs) (sym em) more))
