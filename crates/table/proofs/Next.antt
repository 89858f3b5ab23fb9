-- What a table finds makes a step one that is to be had. Assumes nothing.
use Rattle.std.proofs.Common.{◌≡◌, ℕ, ◌+◌, ◌*◌, ◌<◌, ◌≤◌, Bool, true, false, not, ltb, List, ◌∷◌, length, is_none, is_ok, unwrap_or, Option, Some, None, Result, Ok, refl, sym, ap, ◌∙◌, arith}
use Rattle.std.proofs.lemmas.Bool.{both_ways, not-true, not-false, ltb-true, lt-ltb, eq-eqb, ne_eqb}
use Rattle.std.specs.List.{list_any}
use Rattle.std.specs.Option.{option_map, option_map_or}
use Rattle.theory.specs.Literals.{names}
use Rattle.rules.specs.declared.entry.Reason.TheVariants.{Decided}
use Rattle.rules.specs.declared.entry.Entry.{Entry}
use Rattle.rules.specs.declared.refusal.Refusal.{Refusal}
use Rattle.rules.specs.declared.refusal.Refusal.TheVariants.{NoSuchLiteral, ClaimOnTrail}
use Rattle.rules.specs.States.{State, literals, decisions, level}
use Rattle.rules.specs.Rules.{true_on, latest, live_in, demand, full}
use Rattle.rules.proofs.Lists.{all_below_not}
use Rattle.rules.proofs.Views.{Finds, here, there, latest_view}
use Rattle.trail.specs.Positions.{level_at}
use Rattle.trail.specs.Trails.{push_says, latest_at}
use Rattle.table.specs.Next.{untrue}

-- ---- a literal that may go on the trail

abbrev push_if : Bool → Bool → Result (Unit {0}) Refusal
push_if a b = demand a NoSuchLiteral (demand (not b) ClaimOnTrail (Ok tt))

pub fresh_from : (n : ℕ) (t : List Entry) (l : ℕ) → is_ok (push_says n t l) ≡ true → (l < 2 * n) × (names (literals t) l ≡ false)
fresh_from n t l h = go (ltb l (2 * n)) (names (literals t) l) refl refl h
  where
    go : (a b : Bool) → ltb l (2 * n) ≡ a → names (literals t) l ≡ b → is_ok (push_if a b) ≡ true → (l < 2 * n) × (names (literals t) l ≡ false)
    go true false p q h = (ltb-true l (2 * n) p, q)
    go true true p q h = absurd (both_ways false refl h)
    go false b p q h = absurd (both_ways false refl h)

pub fresh_to : (n : ℕ) (t : List Entry) (l : ℕ) → l < 2 * n → names (literals t) l ≡ false → is_ok (push_says n t l) ≡ true
fresh_to n t l below off = ap (λ a. is_ok (push_if a (names (literals t) l))) (lt-ltb l (2 * n) below) ∙ ap (λ b. is_ok (push_if true b)) off

-- where there is none, the trail is full
pub full_from : (n : ℕ) (t : List Entry) → n ≤ 128 → ((l : ℕ) → 0 ≤ l → l < 256 → is_ok (push_says n t l) ≡ false) → full n t ≡ true
full_from n t few none = go (full n t) refl
  where
    go : (b : Bool) → full n t ≡ b → b ≡ true
    go true q = refl
    go false q =
        let r = all_below_not n (λ i. names (literals t) (2 * i)) q in
        absurd (both_ways (is_ok (push_says n t (2 * r.0))) (none (2 * r.0) (omega arith) (omega (arith, r.1))) (fresh_to n t (2 * r.0) (omega (arith, r.1)) r.2))

-- ---- clauses

pub untrue_from : (s : State) (c : ℕ) → untrue s c ≡ true → (R : List ℕ) × (live_in s c ≡ Some R) × (list_any (true_on s.trail) R ≡ false)
untrue_from s c h = go (live_in s c) refl h
  where
    go : (o : Option (List ℕ)) → live_in s c ≡ o → option_map_or (λ R. not (list_any (true_on s.trail) R)) o false ≡ true
        → (R : List ℕ) × (live_in s c ≡ Some R) × (list_any (true_on s.trail) R ≡ false)
    go None q h = absurd (both_ways false refl h)
    go (Some R) q h = (R, q, not-true (list_any (true_on s.trail) R) h)

pub true_from : (s : State) (c : ℕ) (R : List ℕ) → untrue s c ≡ false → live_in s c ≡ Some R → list_any (true_on s.trail) R ≡ true
true_from s c R h q =
    not-false (list_any (true_on s.trail) R) (sym (ap (λ o. option_map_or (λ R. not (list_any (true_on s.trail) R)) o false) q) ∙ h)

pub live_from : (s : State) (c : ℕ) → is_none (live_in s c) ≡ false → (R : List ℕ) × (live_in s c ≡ Some R)
live_from s c h = go (live_in s c) refl h
  where
    go : (o : Option (List ℕ)) → live_in s c ≡ o → is_none o ≡ false → (R : List ℕ) × (live_in s c ≡ Some R)
    go None q h = absurd (both_ways true h refl)
    go (Some R) q h = (R, q)

-- ---- the latest literal of a conflict

abbrev placed : Entry × List Entry → Entry × ℕ
placed at = (at.0, length at.1)

pub latest_some : (C : List ℕ) (t : List Entry) (e : Entry) (p : ℕ) → latest_at C t ≡ Some (e, p) → (before : List Entry) × (latest C t ≡ Some (e, before)) × (length before ≡ p)
latest_some C t e p h = go (latest C t) refl h
  where
    go : (o : Option (Entry × List Entry)) → latest C t ≡ o → option_map placed o ≡ Some (e, p)
        → (before : List Entry) × (latest C t ≡ Some (e, before)) × (length before ≡ p)
    go None q h = absurd (cc)
    go (Some at) q h =
        let z : placed at ≡ (e, p) = cc in
        (at.1, q ∙ ap (λ (d : Entry). Some (d, at.1)) (ap (λ (w : Entry × ℕ). w.0) z), ap (λ (w : Entry × ℕ). w.1) z)

pub latest_none : (C : List ℕ) (t : List Entry) → latest_at C t ≡ None → latest C t ≡ None
latest_none C t h = go (latest C t) h
  where
    go : (o : Option (Entry × List Entry)) → option_map placed o ≡ None → o ≡ None
    go None h = refl
    go (Some at) h = absurd (cc)

shorter : {C : List ℕ} {t r : List Entry} {e : Entry} → Finds C t e r → length r < length t
shorter (here h) = omega arith
shorter (there n v) = omega (arith, shorter v)

level_found : {C : List ℕ} {t r : List Entry} {e : Entry} → Finds C t e r → level_at t (length r) ≡ Some (level (e ∷ r))
level_found (here {t = t} h) = rw (eq-eqb (length t) (length t) refl)
level_found (there {t = t} {r = r} n v) = rw (ne_eqb (length r) (length t) (λ q. omega (arith, shorter v))) (level_found v)

-- a decided one has the level above that of what was before it
pub level_latest : (C : List ℕ) (t : List Entry) (e : Entry) (before : List Entry) (p : ℕ) → latest C t ≡ Some (e, before) → length before ≡ p → e.reason ≡ Decided
    → unwrap_or (level_at t p) 0 ≡ level before + 1
level_latest C t e before p h q d =
    let k : decisions e.reason ≡ 1 = ap decisions d in
    let z : decisions e.reason + level before ≡ level before + 1 = omega arith in
    ap (λ n. unwrap_or (level_at t n) 0) (sym q) ∙ ap (λ o. unwrap_or o 0) (level_found (latest_view C t (e, before) h)) ∙ z
