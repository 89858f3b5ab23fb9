-- What the code meets: for each kind of step its checks in their order, and the state after it. A reader of what is
-- proved need
-- not read this: `steps_stand` ties it to the rules (Moves) and the table of refusals (Causes), in every state that
-- some steps
-- lead to. A clause and a conflict are lists of literals; what a step makes is the one list of its set (`set_of`).
-- Assumes nothing.
use Rattle.std.specs.Prelude.{ℕ, ◌-◌, ◌*◌, Bool, true, false, not, ◌&&◌, ◌||◌, if◌then◌else◌, List, [], ◌∷◌, ◌++◌, map, set, filter, Option, Some, None, is_none, Result, Ok, Err, ◌==◌, nat_lt, nat_le, slice_get, slice_index, slice_index_or}
use Rattle.std.specs.List.{list_all, list_any}
use Rattle.theory.specs.Literals.{complement, has, names}
use Rattle.theory.specs.Meaning.{Answer, possible, impossible, Meaning}
use Rattle.rules.specs.declared.entry.Reason.{Reason}
use Rattle.rules.specs.declared.entry.Reason.TheVariants.{Decided, Clause, Theory}
use Rattle.rules.specs.declared.entry.Entry.{Entry}
use Rattle.rules.specs.declared.step.Step.{Step}
use Rattle.rules.specs.declared.step.Step.TheVariants.{Decide, Propagate, Imply, Conflict, Clash, Resolve, Jump, Forget, Fit, NoFit}
use Rattle.rules.specs.declared.step.Verdict.{Verdict}
use Rattle.rules.specs.declared.step.Verdict.TheVariants as verdict
use Rattle.rules.specs.declared.refusal.Refusal.{Refusal}
use Rattle.rules.specs.declared.refusal.Refusal.TheVariants.{VerdictStands, AllowanceUsed, ConflictStands, NoConflict, NoSuchLiteral, ClaimOnTrail, NotLive, LacksLiteral, NotFalse, ConflictEmpty, LatestDecided, NotOneAbove, ConflictNotEmpty, NumberNotFree, BookClause, IsReason, ClaimOffTrail, ClauseNotTrue, TrailImpossible, TrailPossible, NotImplied, ShortFitPlace}
use Rattle.rules.specs.Clauses.{set_of, all_below, only}
use Rattle.rules.specs.States.{State, literals, asserted, level, next}
pub use Rattle.rules.specs.States.{Outcome, says, leaves}

-- a literal is true if it is on the trail, and false if its complement is
abbrev pub true_on : List Entry → ℕ → Bool
true_on t l = has (literals t) l

abbrev pub false_on : List Entry → ℕ → Bool
false_on t l = has (literals t) (complement l)

-- each literal of the clause other than `l` is false
abbrev pub false_but : List Entry → ℕ → List ℕ → Bool
false_but t l R = list_all (λ m. m == l || false_on t m) R

-- the trail cut before its decided literal number `k` + 1, and what is cut off: the entries of a level above `k`
abbrev pub up_to : ℕ → List Entry → List Entry
up_to k [] = []
up_to k (e ∷ t) = if nat_le (level (e ∷ t)) k then e ∷ t else up_to k t

abbrev pub above : ℕ → List Entry → List Entry
above k [] = []
above k (e ∷ t) = if nat_le (level (e ∷ t)) k then [] else (e ∷ above k t)

-- the complement of the entry's literal is in the conflict
abbrev pub hit : List ℕ → Entry → Bool
hit C e = has C (complement e.literal)

-- the latest such entry, with the trail before it
abbrev pub latest : List ℕ → List Entry → Option (Entry × List Entry)
latest C [] = None
latest C (e ∷ t) = if hit C e then Some (e, t) else latest C t

abbrev pub is_clause : ℕ → Reason → Bool
is_clause c Decided = false
is_clause c (Clause d) = d == c
is_clause c Theory = false

abbrev pub is_reason : ℕ → List Entry → Bool
is_reason c t = list_any (λ e. is_clause c e.reason) t

-- ---- the clauses

-- learned clauses have the numbers from 512 to 639
abbrev pub is_learned : ℕ → Bool
is_learned c = nat_le 512 c && nat_lt c 640

-- the clause with the number `c`, if it is live
abbrev pub live : List (List ℕ) → List (Option (List ℕ)) → ℕ → Option (List ℕ)
live book learned c = if nat_lt c 512 then slice_get book c else slice_index_or learned (c - 512) None

abbrev pub live_in : State → ℕ → Option (List ℕ)
live_in s c = live s.book s.learned c

-- ---- what the theory says

-- the complements of a core's literals
abbrev pub blame : List ℕ → Answer → Option (List ℕ)
blame ls possible = None
blame ls (impossible core) = Some (map (λ p. complement (slice_index ls p)) core)

abbrev pub is_possible : Answer → Bool
is_possible possible = true
is_possible (impossible core) = false

-- what the theory blames for a literal that follows from a trail: the core of the trail and the literal's complement
abbrev pub theory_blames : Meaning → ℕ → List Entry → Option (List ℕ)
theory_blames M l t = let ls : List ℕ = asserted t ++ complement l ∷ [] in blame ls (M.answer ls)

-- the clause by which an entry followed from the trail before it; a decided entry has none
abbrev pub explained : (ℕ → List Entry → Option (List ℕ)) → (ℕ → Option (List ℕ)) → Reason → ℕ → List Entry → Option (List ℕ)
explained blames clause_at Decided l t = None
explained blames clause_at (Clause c) l t = clause_at c
explained blames clause_at Theory l t = blames l t

-- ---- the states after accepted steps

-- one literal more on the trail
abbrev pub longer : State → ℕ → Reason → State
longer s l r = next s s.learned (record { literal = l; reason = r } ∷ s.trail) None None

-- the conflict is this clause
abbrev pub conflicting : State → List ℕ → State
conflicting s R = next s s.learned s.trail (Some (set_of (has R))) None

-- what stays of a conflict without its latest literal, the complement of `l`, and of the clause by which `l` followed
abbrev pub remains : List ℕ → ℕ → List ℕ → ℕ → Bool
remains C l R m = (has C m && not (m == complement l)) || (has R m && not (m == l))

abbrev pub resolved : List ℕ → ℕ → List ℕ → List ℕ
resolved C l R = set_of (remains C l R)

abbrev pub resolving : State → List ℕ → ℕ → List ℕ → State
resolving s C l R = next s s.learned s.trail (Some (resolved C l R)) None

-- the conflict is the clause with the number `c`, and by it `l` goes on the trail, which is cut to the level `k`
abbrev pub jumping : State → List ℕ → ℕ → ℕ → ℕ → State
jumping s C k c l = next s (set s.learned (c - 512) (Some C)) (record { literal = l; reason = Clause c } ∷ up_to k s.trail) None None

abbrev pub forgetting : State → ℕ → State
forgetting s c = next s (set s.learned (c - 512) None) s.trail s.conflict None

abbrev pub ending : State → Verdict → State
ending s verdict = next s s.learned s.trail s.conflict (Some verdict)

-- ---- checks, with the refusal where one fails

abbrev pub demand : {A : Type 0} → Bool → Refusal → Result A Refusal → Result A Refusal
demand true r o = o
demand false r o = Err r

abbrev pub given : {A B : Type 0} → Option A → Refusal → (A → Result B Refusal) → Result B Refusal
given None r f = Err r
given (Some a) r f = f a

abbrev pub without : {A B : Type 0} → Option A → Refusal → Result B Refusal → Result B Refusal
without None r o = o
without (Some a) r o = Err r

-- no conflict, a literal of `n` claims, its claim not on the trail
abbrev pub fresh : {A : Type 0} → ℕ → State → ℕ → Result A Refusal → Result A Refusal
fresh n s l o =
    without s.conflict ConflictStands (demand (nat_lt l (2 * n)) NoSuchLiteral (demand (not (names (literals s.trail) l)) ClaimOnTrail o))

-- ---- the rules

abbrev pub decide : ℕ → State → ℕ → Outcome
decide n s l = fresh n s l (Ok (longer s l Decided))

abbrev pub propagate : ℕ → State → ℕ → ℕ → Outcome
propagate n s c l =
    fresh n s l (given (live_in s c) NotLive (λ R.
    demand (has R l) LacksLiteral (demand (false_but s.trail l R) NotFalse (Ok (longer s l (Clause c))))))

abbrev pub imply : Meaning → State → ℕ → Outcome
imply M s l =
    fresh M.claims s l (demand (is_possible (M.answer (asserted s.trail))) TrailImpossible
    (demand (not (is_possible (M.answer (asserted s.trail ++ complement l ∷ [])))) NotImplied (Ok (longer s l Theory))))

abbrev pub conflict : State → ℕ → Outcome
conflict s c =
    without s.conflict ConflictStands (given (live_in s c) NotLive (λ R.
    demand (list_all (false_on s.trail) R) NotFalse (Ok (conflicting s R))))

abbrev pub clash : Meaning → State → Outcome
clash M s =
    without s.conflict ConflictStands (given (blame (asserted s.trail) (M.answer (asserted s.trail))) TrailPossible (λ R.
    Ok (conflicting s R)))

-- the conflict's latest literal gives way to the other literals of what explains its complement
abbrev pub resolve : (ℕ → List Entry → Option (List ℕ)) → State → Outcome
resolve blames s =
    given s.conflict NoConflict (λ C. given (latest C s.trail) ConflictEmpty (λ at.
    given (explained blames (live_in s) at.0.reason at.0.literal at.1) LatestDecided (λ R.
    Ok (resolving s C at.0.literal R))))

abbrev pub jump : State → ℕ → ℕ → Outcome
jump s k c =
    given s.conflict NoConflict (λ C. given (only (filter (hit C) (above k s.trail))) NotOneAbove (λ e.
    demand (is_learned c && is_none (live_in s c)) NumberNotFree (Ok (jumping s C k c (complement e.literal)))))

abbrev pub forget : State → ℕ → Outcome
forget s c =
    given (live_in s c) NotLive (λ R. demand (is_learned c) BookClause
    (demand (not (is_reason c s.trail)) IsReason (Ok (forgetting s c))))

-- every claim is on the trail
abbrev pub full : ℕ → List Entry → Bool
full n t = all_below n (λ i. names (literals t) (2 * i))

abbrev pub fit : Meaning → State → ℕ → Outcome
fit M s place =
    without s.conflict ConflictStands
    (demand (full M.claims s.trail) ClaimOffTrail
    (demand (list_all (list_any (true_on s.trail)) s.book) ClauseNotTrue
    (demand (is_possible (M.answer (asserted s.trail))) TrailImpossible
    (demand (nat_le M.terms place) ShortFitPlace (Ok (ending s verdict.Fit))))))

abbrev pub no_fit : State → Outcome
no_fit s = given s.conflict NoConflict (λ C. demand (is_none (slice_get C 0)) ConflictNotEmpty (Ok (ending s verdict.NoFit)))

abbrev pub rule : Meaning → State → Step → Outcome
rule M s (Decide l) = decide M.claims s l
rule M s (Propagate c l) = propagate M.claims s c l
rule M s (Imply l) = imply M s l
rule M s (Conflict c) = conflict s c
rule M s Clash = clash M s
rule M s Resolve = resolve (theory_blames M) s
rule M s (Jump k c) = jump s k c
rule M s (Forget c) = forget s c
rule M s (Fit place) = fit M s place
rule M s NoFit = no_fit s

-- no step is accepted after the verdict, nor past the allowance
abbrev pub unless_over : {A : Type 0} → State → Result A Refusal → Result A Refusal
unless_over s o = demand (is_none s.verdict) VerdictStands (demand (not (s.count == s.allowance)) AllowanceUsed o)

abbrev pub judge : Meaning → State → Step → Outcome
judge M s x = unless_over s (rule M s x)
