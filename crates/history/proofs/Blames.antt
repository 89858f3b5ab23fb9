-- That what is stored for the entries of a trail stands for what the theory blames. Assumes nothing.
use Rattle.std.proofs.Common.{◌≡◌, ℕ, zero, suc, ◌+◌, ◌<◌, ◌≤◌, Bool, true, false, cond, eqb, leb, List, [], ◌∷◌, ◌++◌, map, length, take, drop, set, get_or, slice_get, slice_index, Option, Some, None, Result, Ok, sym, refl, ap, ◌∙◌, subst, arith}
use Rattle.std.proofs.lemmas.List.{take_all, take-append-le, length-drop, length-map, drop-drop}
use Rattle.theory.specs.Literals.{complement}
use Rattle.theory.specs.Meaning.{Meaning, Rising}
use Rattle.rules.specs.declared.entry.Entry.{Entry}
use Rattle.rules.specs.declared.entry.Reason.{Reason}
use Rattle.rules.specs.declared.entry.Reason.TheVariants.{Decided, Clause, Theory}
use Rattle.rules.specs.declared.refusal.Refusal.{Refusal}
use Rattle.rules.specs.declared.refusal.Refusal.TheVariants.{NoConflict, ConflictEmpty, LatestDecided}
use Rattle.rules.specs.States.{State, asserted, level}
use Rattle.rules.specs.Rules.{up_to, hit, latest, live_in, theory_blames, explained, resolving, given, resolve}
use Rattle.rules.proofs.Trails.{asserted_length}
use Rattle.trail.specs.Trails.{blamed}
use Rattle.table.specs.Tables.{stored}
use Rattle.table.specs.Explained.{explained_at}
use Rattle.history.specs.Links.{Explains}

-- ---- entries that need nothing new

abbrev reason_of : List Entry → Reason
reason_of [] = Decided
reason_of (d ∷ ds) = d.reason

-- an entry that did not follow by the theory needs nothing stored
pub explains_push : (M : Meaning) (blames : List (List ℕ)) (e : Entry) (t : List Entry) → (e.reason ≡ Theory → ⊥) → Explains M blames t → Explains M blames (e ∷ t)
explains_push M blames e t n h zero d before q th = absurd (n (ap (λ (z : List Entry). reason_of z) q ∙ th))
explains_push M blames e t n h (suc k) d before q th = h k d before q th

-- the end of a trail is explained with the trail
pub explains_end : (M : Meaning) (blames : List (List ℕ)) (j : ℕ) (t : List Entry) → Explains M blames t → Explains M blames (drop j t)
explains_end M blames j t h k d before q th = h (j + k) d before (sym (drop-drop k j t) ∙ q) th

-- a cut leaves an end of the trail
pub cut_end : (k : ℕ) (t : List Entry) → (j : ℕ) × (drop j t ≡ up_to k t)
cut_end k [] = (0, refl)
cut_end k (e ∷ t) = go (cut_end k t) (leb (level (e ∷ t)) k)
  where
    go : (j : ℕ) × (drop j t ≡ up_to k t) → (b : Bool) → (j : ℕ) × (drop j (e ∷ t) ≡ cond b (e ∷ t) (up_to k t))
    go r true = (0, refl)
    go r false = (suc r.0, r.1)

-- of the literals those of the end that is left come first
pub cut_asserted : (k : ℕ) (t : List Entry) → take (length (up_to k t)) (asserted t) ≡ asserted (up_to k t)
cut_asserted k [] = refl
cut_asserted k (e ∷ t) = go (cut_asserted k t) (leb (level (e ∷ t)) k)
  where
    short : length (up_to k t) ≤ length (asserted t)
    short = let r = cut_end k t in omega (arith, length-drop r.0 t, ap length r.1, asserted_length t)

    go : take (length (up_to k t)) (asserted t) ≡ asserted (up_to k t) → (b : Bool) → take (length (cond b (e ∷ t) (up_to k t))) (asserted (e ∷ t)) ≡ asserted (cond b (e ∷ t) (up_to k t))
    go rest true = take_all (length (e ∷ t)) (asserted (e ∷ t)) (omega (arith, asserted_length (e ∷ t)))
    go rest false = take-append-le (length (up_to k t)) (asserted t) (e.literal ∷ []) short ∙ rest

-- ---- resolving by what is stored

given_same : {A B : Type 0} (a : Option A) (r : Refusal) (f h : A → Result B Refusal) → ((x : A) → a ≡ Some x → f x ≡ h x) → given a r f ≡ given a r h
given_same None r f h e = refl
given_same (Some x) r f h e = e x refl

-- the latest entry that a conflict hits, with the trail before it, is an end of the trail
latest_end : (C : List ℕ) (t : List Entry) (at : Entry × List Entry) → latest C t ≡ Some at → (k : ℕ) × (drop k t ≡ at.0 ∷ at.1)
latest_end C [] at e = cc
latest_end C (d ∷ t) at e = go (hit C d) e (latest_end C t at)
  where
    go : (b : Bool) → cond b (Some (d, t)) (latest C t) ≡ Some at → (latest C t ≡ Some at → (k : ℕ) × (drop k t ≡ at.0 ∷ at.1)) → (k : ℕ) × (drop k (d ∷ t) ≡ at.0 ∷ at.1)
    go true q rest = let z : (d, t) ≡ at = cc in (0, subst (λ (y : Entry × List Entry). d ∷ t ≡ y.0 ∷ y.1) z refl)
    go false q rest = let r = rest q in (suc r.0, r.1)

explained_same : (M : Meaning) (blames : List (List ℕ)) (clause_at : ℕ → Option (List ℕ)) (r : Reason) (l : ℕ) (t : List Entry)
    → (r ≡ Theory → theory_blames M l t ≡ stored blames l t) → explained (stored blames) clause_at r l t ≡ explained (theory_blames M) clause_at r l t
explained_same M blames clause_at Decided l t h = refl
explained_same M blames clause_at (Clause c) l t h = refl
explained_same M blames clause_at Theory l t h = sym (h refl)

pub explained_at_same : (M : Meaning) (blames : List (List ℕ)) (clause_at : ℕ → Option (List ℕ)) (t : List Entry) → Explains M blames t → (p : ℕ)
    → explained_at (stored blames) clause_at t p ≡ explained_at (theory_blames M) clause_at t p
explained_at_same M blames clause_at [] h p = refl
explained_at_same M blames clause_at (e ∷ t) h p = go (eqb p (length t)) (explained_at_same M blames clause_at t (λ k. h (suc k)) p)
  where
    go : (b : Bool) → explained_at (stored blames) clause_at t p ≡ explained_at (theory_blames M) clause_at t p
        → cond b (explained (stored blames) clause_at e.reason e.literal t) (explained_at (stored blames) clause_at t p)
        ≡ cond b (explained (theory_blames M) clause_at e.reason e.literal t) (explained_at (theory_blames M) clause_at t p)
    go true rest = explained_same M blames clause_at e.reason e.literal t (h 0 e t refl)
    go false rest = rest

pub resolve_same : (M : Meaning) (blames : List (List ℕ)) (s : State) → Explains M blames s.trail → resolve (stored blames) s ≡ resolve (theory_blames M) s
resolve_same M blames s h =
    given_same s.conflict NoConflict (λ C. given (latest C s.trail) ConflictEmpty (λ at. by (stored blames) C at)) (λ C. given (latest C s.trail) ConflictEmpty (λ at. by (theory_blames M) C at)) (λ C e.
    given_same (latest C s.trail) ConflictEmpty (λ at. by (stored blames) C at) (λ at. by (theory_blames M) C at) (λ at f.
    let end = latest_end C s.trail at f in
    ap (λ o. given o LatestDecided (λ R. Ok (resolving s C at.0.literal R)))
    (explained_same M blames (live_in s) at.0.reason at.0.literal at.1 (h end.0 at.0 at.1 end.1))))
  where
    by : (ℕ → List Entry → Option (List ℕ)) → List ℕ → Entry × List Entry → Result State Refusal
    by blames C at = given (explained blames (live_in s) at.0.reason at.0.literal at.1) LatestDecided (λ R. Ok (resolving s C at.0.literal R))

-- ---- cores

rising_room : (limit p : ℕ) (ps : List ℕ) → Rising limit (p ∷ ps) → p + length (p ∷ ps) ≤ limit
rising_room limit p [] r = omega (arith, r)
rising_room limit p (q ∷ ps) r = omega (arith, r.0, rising_room limit q ps r.1)

pub rising_few : (limit : ℕ) (ps : List ℕ) → Rising limit ps → length ps ≤ limit
rising_few limit [] r = omega arith
rising_few limit (p ∷ ps) r = omega (arith, rising_room limit p ps r)

-- a core in its place is not cut
pub blamed_whole : (ls : List ℕ) (next : ℕ) (core : List ℕ) → length core ≤ 256 → take 256 (blamed ls next core) ≡ blamed ls next core
blamed_whole ls next core h = take_all 256 (blamed ls next core) (omega (arith, length-map core (λ p. complement (get_or ls p next))))

-- the literal that comes after a list is its last
after_last : (ls : List ℕ) (x p : ℕ) → p ≤ length ls → get_or ls p x ≡ slice_index (ls ++ x ∷ []) p
after_last [] x zero h = refl
after_last [] x (suc p) h = absurd (omega arith)
after_last (y ∷ ys) x zero h = refl
after_last (y ∷ ys) x (suc p) h = after_last ys x p (omega arith)

rising_head : (limit p : ℕ) (ps : List ℕ) → Rising limit (p ∷ ps) → (p < limit) × Rising limit ps
rising_head limit p [] r = (r, tt)
rising_head limit p (q ∷ ps) r = (omega (arith, r.0, (rising_head limit q ps r.1).0), r.1)

pub blamed_last : (ls : List ℕ) (x : ℕ) (core : List ℕ) → Rising (length ls + 1) core → blamed ls x core ≡ map (λ p. complement (slice_index (ls ++ x ∷ []) p)) core
blamed_last ls x [] r = refl
blamed_last ls x (p ∷ ps) r =
    let h = rising_head (length ls + 1) p ps r in
    ap (λ z. complement z ∷ blamed ls x ps) (after_last ls x p (omega (arith, h.0)))
    ∙ ap (λ zs. complement (slice_index (ls ++ x ∷ []) p) ∷ zs) (blamed_last ls x ps h.1)

-- ---- an entry that followed by the theory

set_here : (xs : List (List ℕ)) (i : ℕ) (v : List ℕ) → i < length xs → slice_get (set xs i v) i ≡ Some v
set_here [] i v h = absurd (omega arith)
set_here (x ∷ xs) zero v h = refl
set_here (x ∷ xs) (suc i) v h = set_here xs i v (omega arith)

set_there : (xs : List (List ℕ)) (i j : ℕ) (v : List ℕ) → j < i → slice_get (set xs i v) j ≡ slice_get xs j
set_there [] i j v h = refl
set_there (x ∷ xs) zero j v h = absurd (omega arith)
set_there (x ∷ xs) (suc i) zero v h = refl
set_there (x ∷ xs) (suc i) (suc j) v h = set_there xs i j v (omega arith)

-- once what the theory blames for it is stored
pub explains_implied : (M : Meaning) (blames : List (List ℕ)) (l : ℕ) (t : List Entry) (v : List ℕ) → theory_blames M l t ≡ Some v → length t < length blames
    → Explains M blames t → Explains M (set blames (length t) v) (record { literal = l; reason = Theory } ∷ t)
explains_implied M blames l t v is room h zero d before q th =
    let z : t ≡ before = cc in
    let y : record { literal = l; reason = Theory } ≡ d = cc in
    subst (λ (b : List Entry). theory_blames M d.literal b ≡ stored (set blames (length t) v) d.literal b) z
    (subst (λ (e : Entry). theory_blames M e.literal t ≡ stored (set blames (length t) v) e.literal t) y (is ∙ sym (set_here blames (length t) v room)))
explains_implied M blames l t v is room h (suc k) d before q th =
    h k d before q th
    ∙ sym (set_there blames (length t) (length before) v (omega (arith, length-drop k t, ap length q)))
