-- A trail's entries stand with the oldest first, and its definitions have the latest first: what one entry more or less
-- does to either. Assumes nothing.
use Rattle.std.proofs.Common.{◌≡◌, ℕ, ◌+◌, ◌*◌, ◌<◌, ◌≤◌, Bool, true, false, not, cond, ◌||◌, eqb, ltb, ◌≢◌, List, [], ◌∷◌, ◌++◌, length, vec_items, get_or, map, set, take, drop, replicate, reverse, Option, Some, None, Result, Ok, sym, refl, ap, ◌∙◌, subst, ⊎_elim, arith}
use Rattle.std.proofs.lemmas.Bool.{cases_Bool, both_ways, le-leb, lt-leb, cases_eq, cases_lt, ltb-true, eq-eqb, ne_eqb, or_parts, eqb-false}
use Rattle.std.proofs.lemmas.List.{reverse-append, length-reverse, length-map, length-take-le, length_push, take_all, take-append-le, get_or_append_left, get_or-take, get_or_push, get_or-set_same, get_or-set_other, get_or-replicate, get_or_past, length-replicate}
use Rattle.std.specs.Option.{is_some, option_flatten, unwrap_or}
use Rattle.theory.specs.Literals.{claim, has, names, Proper}
use Rattle.theory.proofs.Claims.{names_later, proper_push, proper_few}
use Rattle.rules.specs.declared.entry.Reason.{Reason}
use Rattle.rules.specs.declared.entry.Reason.TheVariants.{Decided, Clause, Theory}
use Rattle.rules.specs.declared.entry.Entry.{Entry}
use Rattle.rules.specs.declared.refusal.Refusal.{Refusal}
use Rattle.rules.specs.declared.refusal.Refusal.TheVariants.{NoSuchLiteral, ClaimOnTrail}
use Rattle.rules.specs.Clauses.{all_below}
use Rattle.rules.specs.States.{literals, asserted, decisions, level}
use Rattle.rules.specs.Rules.{up_to, demand}
use Rattle.rules.proofs.Lists.{all_below_at, all_below_not, missing}
use Rattle.rules.proofs.Trails.{asserted_names, asserted_length, Takes, latest_goes, proper_before, proper_length}
use Rattle.trail.specs.declared.trail.Trail.{Trail}
use Rattle.trail.specs.Trails.{claims_of, trail_of, push_says}
use Rattle.trail.specs.Positions.{position_of}
use Rattle.trail.specs.Kept.{Leveled, Placed}

pub reverse_push : (es : List Entry) (e : Entry) → reverse (es ++ e ∷ []) ≡ e ∷ reverse es
reverse_push es e = reverse-append es (e ∷ [])

-- ---- literals of the claims, no claim twice

-- a trail with the latest entry last
pub proper_turned : (n : ℕ) (es : List Entry) (e : Entry) → Proper n (asserted (reverse (es ++ e ∷ []))) → Proper n (asserted (e ∷ reverse es))
proper_turned n es e p = subst (λ t. Proper n (asserted t)) (reverse_push es e) p

pub proper_more : (n : ℕ) (es : List Entry) (e : Entry) → Proper n (asserted (reverse es)) → e.literal < 2 * n → names (literals (reverse es)) e.literal ≡ false
    → Proper n (asserted (reverse (es ++ e ∷ [])))
proper_more n es e p low new =
    subst (λ t. Proper n (asserted t)) (sym (reverse_push es e))
    (proper_push n (asserted (reverse es)) e.literal p low (asserted_names (reverse es) e.literal ∙ new))

-- ---- levels

pub level_few : (t : List Entry) → level t ≤ length t
level_few [] = omega arith
level_few (e ∷ t) = let r = level_few t in let one = at_most e.reason in omega arith
  where
    at_most : (r : Reason) → decisions r ≤ 1
    at_most Decided = omega arith
    at_most (Clause c) = omega arith
    at_most Theory = omega arith

leveled_push : (levels : List ℕ) (es : List Entry) (e : Entry) (k : ℕ) → length levels ≡ length es → k ≡ level (e ∷ reverse es) → Leveled levels es
    → Leveled (levels ++ k ∷ []) (es ++ e ∷ [])
leveled_push levels es e k long here old p h =
    ⊎_elim
    (λ (q : p < length es).
    get_or_append_left levels (k ∷ []) 0 p (omega arith) ∙ old p q ∙ ap (λ fs. level (reverse fs)) (sym (take-append-le (p + 1) es (e ∷ []) (omega arith))))
    (λ (q : length es ≤ p).
    get_or_push levels k 0 p (omega (arith, length_push es e)) ∙ here ∙ ap level (sym (reverse_push es e))
    ∙ ap (λ fs. level (reverse fs)) (sym (take_all (p + 1) (es ++ e ∷ []) (omega (arith, length_push es e)))))
    (cases_lt p (length es))

leveled_pop : (levels : List ℕ) (es : List Entry) (e : Entry) → Leveled levels (es ++ e ∷ []) → Leveled (take (length es) levels) es
leveled_pop levels es e old p h =
    get_or-take (length es) levels p 0 h ∙ old p (omega (arith, length_push es e))
    ∙ ap (λ fs. level (reverse fs)) (take-append-le (p + 1) es (e ∷ []) (omega arith))

-- ---- places

pub is_some_place : (t : List Entry) (l : ℕ) → is_some (position_of t l) ≡ has (literals t) l
is_some_place [] l = refl
is_some_place (e ∷ t) l = go (eqb e.literal l) (is_some_place t l)
  where
    go : (b : Bool) → is_some (position_of t l) ≡ has (literals t) l → is_some (cond b (Some (length t)) (position_of t l)) ≡ (b || has (literals t) l)
    go true r = refl
    go false r = r

-- what is read at a literal
pub is_placed : (places : List (Option ℕ)) (es : List Entry) (l : ℕ) (o : Option (Option ℕ)) → unwrap_or o None ≡ get_or places l None → Placed places es
    → option_flatten o ≡ position_of (reverse es) l
is_placed places es l o e k = flat o ∙ e ∙ k l
  where
    flat : (o : Option (Option ℕ)) → option_flatten o ≡ unwrap_or o None
    flat None = refl
    flat (Some o) = refl

place_off : (t : List Entry) (l : ℕ) → has (literals t) l ≡ false → position_of t l ≡ None
place_off t l h = none (position_of t l) (is_some_place t l ∙ h)
  where
    none : (o : Option ℕ) → is_some o ≡ false → o ≡ None
    none None e = refl
    none (Some p) e = cc

placed_none : (n : ℕ) → Placed (replicate n None) []
placed_none n l =
    ⊎_elim (λ h. get_or-replicate n l None None h) (λ (h : n ≤ l). get_or_past (replicate n None) l None (omega (arith, length-replicate {A = Option ℕ} n None))) (cases_lt l n)

placed_push : (places : List (Option ℕ)) (es : List Entry) (e : Entry) → e.literal < length places → Placed places es
    → Placed (set places e.literal (Some (length es))) (es ++ e ∷ [])
placed_push places es e h old l =
    ⊎_elim
    (λ (q : e.literal ≡ l).
    ap (λ (i : ℕ). get_or (set places e.literal (Some (length es))) i None) (sym q) ∙ get_or-set_same places e.literal (Some (length es)) None h
    ∙ ap Some (sym (length-reverse es)) ∙ ap (λ b. cond b (Some (length (reverse es))) (position_of (reverse es) l)) (sym (eq-eqb e.literal l q)))
    (λ (q : e.literal ≢ l).
    get_or-set_other places e.literal l (Some (length es)) None (λ z. q (sym z)) ∙ old l
    ∙ ap (λ b. cond b (Some (length (reverse es))) (position_of (reverse es) l)) (sym (ne_eqb e.literal l q)))
    (cases_eq e.literal l)
    ∙ ap (λ t. position_of t l) (sym (reverse_push es e))

placed_pop : (places : List (Option ℕ)) (es : List Entry) (e : Entry) → e.literal < length places → has (literals (reverse es)) e.literal ≡ false
    → Placed places (es ++ e ∷ []) → Placed (set places e.literal None) es
placed_pop places es e h off old l =
    ⊎_elim
    (λ (q : e.literal ≡ l).
    ap (λ (i : ℕ). get_or (set places e.literal None) i None) (sym q) ∙ get_or-set_same places e.literal None None h
    ∙ sym (place_off (reverse es) e.literal off) ∙ ap (position_of (reverse es)) q)
    (λ (q : e.literal ≢ l).
    get_or-set_other places e.literal l None None (λ z. q (sym z)) ∙ old l ∙ ap (λ t. position_of t l) (reverse_push es e)
    ∙ ap (λ b. cond b (Some (length (reverse es))) (position_of (reverse es) l)) (ne_eqb e.literal l q))
    (cases_eq e.literal l)

-- ---- taking a literal

pub takes : (n : ℕ) (t : List Entry) (l : ℕ) → Ok tt ≡ push_says n t l → Takes n t l
takes n t l h = go (ltb l (2 * n)) (names (literals t) l) refl refl h
  where
    go : (a b : Bool) → ltb l (2 * n) ≡ a → names (literals t) l ≡ b
        → ◌≡◌ {A = Result (Unit {0}) Refusal} (Ok tt) (demand a NoSuchLiteral (demand (not b) ClaimOnTrail (Ok tt))) → Takes n t l
    go true false p q h = record { below = ltb-true l (2 * n) p; off = q }
    go true true p q h = cc
    go false b p q h = cc

-- ---- all that a trail keeps

pub record Kept (n : ℕ) (es : List Entry) (levels : List ℕ) (places : List (Option ℕ)) : Type 0 where
  pub level_each : length levels ≡ length es
  pub proper : Proper n (asserted (reverse es))
  pub leveled : Leveled levels es
  pub placed : Placed places es

pub kept : (t : Trail) → Kept t.claims (vec_items t.entries) (vec_items t.levels) t.places
kept t = record { level_each = t.level_each; proper = t.proper; leveled = t.leveled; placed = t.placed }

pub kept_as : {n : ℕ} {es es' : List Entry} {levels levels' : List ℕ} {places places' : List (Option ℕ)} → es' ≡ es → levels' ≡ levels → places' ≡ places
    → Kept n es levels places → Kept n es' levels' places'
kept_as {n} {es} {es'} {levels} {levels'} {places} {places'} a b c k =
    subst (λ (x : List Entry). Kept n x levels' places') (sym a)
    (subst (λ (x : List ℕ). Kept n es x places') (sym b) (subst (λ (x : List (Option ℕ)). Kept n es levels x) (sym c) k))

pub kept_none : (n m : ℕ) → Kept n [] [] (replicate m None)
kept_none n m = record {
  level_each = refl;
  proper = record { below = λ k d h. absurd (omega arith); apart_claims = refl };
  leveled = λ p h. absurd (omega arith);
  placed = placed_none m;
}

pub kept_push : (n : ℕ) (es : List Entry) (levels : List ℕ) (places : List (Option ℕ)) (e : Entry) (k : ℕ) → Kept n es levels places
    → Takes n (reverse es) e.literal → 2 * n ≤ length places → k ≡ level (e ∷ reverse es)
    → Kept n (es ++ e ∷ []) (levels ++ k ∷ []) (set places e.literal (Some (length es)))
kept_push n es levels places e k old t room here = record {
  level_each = omega (arith, length_push es e, length_push levels k, old.level_each);
  proper = proper_more n es e old.proper t.below t.off;
  leveled = leveled_push levels es e k old.level_each here old.leveled;
  placed = placed_push places es e (omega (arith, t.below)) old.placed;
}

pub kept_pop : (n : ℕ) (es : List Entry) (levels : List ℕ) (places : List (Option ℕ)) (e : Entry) → Kept n (es ++ e ∷ []) levels places → 2 * n ≤ length places
    → Kept n es (take (length es) levels) (set places e.literal None)
kept_pop n es levels places e old room = record {
  level_each = length-take-le (length es) levels (omega (arith, old.level_each, length_push es e));
  proper = proper_before n e (reverse es) all;
  leveled = leveled_pop levels es e old.leveled;
  placed = placed_pop places es e (omega (arith, took.below)) (or_parts _ _ took.off).0 old.placed;
}
  where
    all : Proper n (asserted (e ∷ reverse es))
    all = proper_turned n es e old.proper

    took : Takes n (reverse es) e.literal
    took = latest_goes n e (reverse es) all

-- ---- a cut, one entry at a time

pub up_to_more : (k : ℕ) (t : List Entry) → k < level t → up_to k (drop 1 t) ≡ up_to k t
up_to_more k [] h = absurd (omega arith)
up_to_more k (e ∷ t) h = rw (lt-leb (level (e ∷ t)) k h)

pub up_to_stop : (k : ℕ) (t : List Entry) → level t ≤ k → up_to k t ≡ t
up_to_stop k [] h = refl
up_to_stop k (e ∷ t) h = rw (le-leb (level (e ∷ t)) k h)

pub pop_fewer : (k : ℕ) (t : List Entry) → k < level t → length (drop 1 t) < length t
pop_fewer k [] h = absurd (omega arith)
pop_fewer k (e ∷ t) h = omega arith

-- ---- a full trail

-- a claim is on a list as itself or as its denial
names_has : (ls : List ℕ) (k : ℕ) → has (map claim ls) k ≡ false → names ls (2 * k) ≡ false
names_has [] k h = refl
names_has (l ∷ ls) k h =
    let b = or_parts (eqb (claim l) k) (has (map claim ls) k) h in
    names_later l ls (2 * k) (λ e. eqb-false (claim l) k b.0 (omega arith)) ∙ names_has ls k b.1

-- every claim is on a trail if it has as many entries
pub full : (n : ℕ) (t : List Entry) → Proper n (asserted t) → eqb (length t) n ≡ all_below n (λ i. names (literals t) (2 * i))
full n t p =
    ⊎_elim
    (λ (e : all_below n on ≡ true).
    eq-eqb (length t) n
    (⊎_elim (λ (h : length t < n).
    let r = missing n (map claim (literals t)) (omega (arith, length-map (literals t) claim, literals_length t)) in
    absurd (both_ways (on r.0) (names_has (literals t) r.0 r.2) (all_below_at n on e r.0 r.1)))
    (λ (h : n ≤ length t). omega (arith, proper_length n t p)) (cases_lt (length t) n)) ∙ sym e)
    (λ (e : all_below n on ≡ false).
    let r = all_below_not n on e in
    let more = proper_push n (asserted t) (2 * r.0) p (omega (arith, r.1)) (asserted_names t (2 * r.0) ∙ r.2) in
    let few : length t < n = omega (arith, proper_few n (asserted t ++ 2 * r.0 ∷ []) more, length_push (asserted t) (2 * r.0), asserted_length t) in
    ne_eqb (length t) n (λ q. omega arith) ∙ sym e)
    (cases_Bool (all_below n on))
  where
    on : ℕ → Bool
    on i = names (literals t) (2 * i)

    literals_length : (t : List Entry) → length (literals t) ≡ length t
    literals_length [] = refl
    literals_length (e ∷ t) = omega (arith, literals_length t)

-- ---- what stands of every trail

pub proper_trail : (t : Trail) → Proper (claims_of t) (asserted (trail_of t))
proper_trail t = t.proper
