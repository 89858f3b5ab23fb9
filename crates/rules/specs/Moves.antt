-- The rules of a history, as a figure would print them: one for each of the ten kinds of step, with every premise.
-- They are
-- those of Nieuwenhuis, Oliveras and Tinelli, "Solving SAT and SAT Modulo Theories" (Journal of the ACM, 2006), with a
-- conflict as part of the state. Assumes nothing.
use Rattle.std.specs.Prelude.{◌≡◌, ℕ, ◌+◌, ◌-◌, ◌*◌, ◌<◌, ◌≤◌, ◌≢◌, ◌⊎◌, List, [], ◌∷◌, ◌++◌, map, set, length, Option, Some, None, All, Contains, slice_get, slice_index}
use Rattle.theory.specs.Literals.{complement}
use Rattle.theory.specs.Meaning.{possible, impossible, Meaning, Rising}
use Rattle.rules.specs.declared.entry.Reason.{Reason}
use Rattle.rules.specs.declared.entry.Reason.TheVariants.{Decided, Clause, Theory}
use Rattle.rules.specs.declared.entry.Entry.{Entry}
use Rattle.rules.specs.declared.step.Step.{Step}
use Rattle.rules.specs.declared.step.Step.TheVariants.{Decide, Propagate, Imply, Conflict, Clash, Resolve, Jump, Forget, Fit, NoFit}
use Rattle.rules.specs.declared.step.Verdict.{Verdict}
use Rattle.rules.specs.declared.step.Verdict.TheVariants as verdict
use Rattle.rules.specs.States.{State, literals, asserted, level, next}

-- ---- the trail

-- a literal on the trail is true, and its complement false
abbrev pub OnTrail : List Entry → ℕ → Type 0
OnTrail t l = Contains (literals t) l

abbrev pub FalseOn : List Entry → ℕ → Type 0
FalseOn t l = OnTrail t (complement l)

-- the literal's claim is on the trail
abbrev pub ClaimOn : List Entry → ℕ → Type 0
ClaimOn t l = OnTrail t l ⊎ FalseOn t l

-- an entry of the trail, and those before it: its position is their number, its level that of the two together
abbrev pub At : List Entry → Entry → List Entry → Type 0
At t e before = (later : List Entry) × (t ≡ later ++ e ∷ before)

-- the trail cut before its decided literal number `k` + 1
pub record Cut (k : ℕ) (t : List Entry) (kept : List Entry) : Type 0 where
  pub first_off : Entry
  pub there : At t first_off kept
  pub decided : first_off.reason ≡ Decided
  pub decided_before : level kept ≡ k

-- ---- clauses and sets

-- a live clause and its number: those of the book from 0, the learned ones from 512
pub data Live (s : State) (c : ℕ) (R : List ℕ) : Type 0 where
  of_book : slice_get s.book c ≡ Some R → Live s c R
  learned : (place : ℕ) → c ≡ 512 + place → slice_get s.learned place ≡ Some (Some R) → Live s c R

abbrev pub NotLive : State → ℕ → Type 0
NotLive s c = (R : List ℕ) → ¬ Live s c R

-- the numbers of learned clauses
pub record IsLearned (c : ℕ) : Type 0 where
  pub from : 512 ≤ c
  pub below : c < 640

-- clause `c` is the reason of an entry
abbrev pub IsReason : List Entry → ℕ → Type 0
IsReason t c = (e : Entry) × (before : List Entry) × At t e before × (e.reason ≡ Clause c)

-- every literal of the clause is false, or every one but `l`
abbrev pub FalseAll : List Entry → List ℕ → Type 0
FalseAll t R = (m : ℕ) → Contains R m → FalseOn t m

abbrev pub FalseBut : List Entry → ℕ → List ℕ → Type 0
FalseBut t l R = (m : ℕ) → Contains R m → m ≢ l → FalseOn t m

abbrev pub SomeTrue : List Entry → List ℕ → Type 0
SomeTrue t R = (m : ℕ) × Contains R m × OnTrail t m

-- the set of the literals with a property: the list that has just these, rising
pub record SetOf (Has : ℕ → Type 0) (C : List ℕ) : Type 0 where
  pub rises : Rising 256 C
  pub all : (m : ℕ) → Has m → Contains C m
  pub only : (m : ℕ) → Contains C m → Has m

-- ---- the theory

abbrev pub Possible : Meaning → List ℕ → Type 0
Possible M ls = M.answer ls ≡ possible

abbrev pub Impossible : Meaning → List ℕ → Type 0
Impossible M ls = (core : List ℕ) × (M.answer ls ≡ impossible core)

-- the complements of the literals at a core's positions
abbrev pub blamed : List ℕ → List ℕ → List ℕ
blamed ls core = map (λ p. complement (slice_index ls p)) core

-- a trail's literals, and then the complement of `l`
abbrev pub denying : List Entry → ℕ → List ℕ
denying t l = asserted t ++ complement l ∷ []

-- ---- the conflict

-- the latest literal of a conflict is the complement of that entry, of all whose complement the conflict has, with the
-- highest position
pub record Latest (C : List ℕ) (t : List Entry) (e : Entry) (before : List Entry) : Type 0 where
  pub there : At t e before
  pub hit : Contains C (complement e.literal)
  pub highest : (d : Entry) (earlier : List Entry) → At t d earlier → Contains C (complement d.literal) → length earlier ≤ length before

-- a literal of a conflict whose complement has a level above `k`
abbrev pub Above : ℕ → List ℕ → List Entry → ℕ → Type 0
Above k C t m = Contains C m × ((e : Entry) × (before : List Entry) × At t e before × (e.literal ≡ complement m) × (k < level (e ∷ before)))

-- the one such literal
pub record OneAbove (k : ℕ) (C : List ℕ) (t : List Entry) (m : ℕ) : Type 0 where
  pub above : Above k C t m
  pub alone : (other : ℕ) → Above k C t other → other ≡ m

-- the clause by which an entry followed from those before it: its reason, or what the theory blames
pub data Explained (M : Meaning) (s : State) (e : Entry) (before : List Entry) (R : List ℕ) : Type 0 where
  by_clause : (c : ℕ) → e.reason ≡ Clause c → Live s c R → Explained M s e before R
  by_theory : (core : List ℕ) → e.reason ≡ Theory → M.answer (denying before e.literal) ≡ impossible core → R ≡ blamed (denying before e.literal) core → Explained M s e before R

-- what Resolve leaves: the conflict without its latest literal, and the other literals of what explains the entry
abbrev pub Resolved : List ℕ → ℕ → List ℕ → ℕ → Type 0
Resolved C l R m = (Contains C m × (m ≢ complement l)) ⊎ (Contains R m × (m ≢ l))

-- ---- what every step wants, and every literal that goes on the trail

pub record Going (s : State) : Type 0 where
  pub no_verdict : s.verdict ≡ None
  pub left : s.count < s.allowance

pub record Free (M : Meaning) (s : State) (l : ℕ) : Type 0 where
  pub no_conflict : s.conflict ≡ None
  pub of_claims : l < 2 * M.claims
  pub off_trail : ¬ ClaimOn s.trail l

-- ---- the states that steps lead to

-- one literal more on a trail
abbrev pub entered : ℕ → Reason → List Entry → List Entry
entered l r t = record { literal = l; reason = r } ∷ t

abbrev pub add : State → ℕ → Reason → State
add s l r = next s s.learned (entered l r s.trail) None None

-- a new conflict
abbrev pub dispute : State → List ℕ → State
dispute s C = next s s.learned s.trail (Some C) None

-- the learned clause `c` is now this one, or none
abbrev pub put : State → ℕ → Option (List ℕ) → List (Option (List ℕ))
put s c R = set s.learned (c - 512) R

abbrev pub end : State → Verdict → State
end s verdict = next s s.learned s.trail s.conflict (Some verdict)

-- ---- the rules: from a state a step leads to a state

pub data Moves (M : Meaning) (s : State) : Step → State → Type 0 where
  decide : {l : ℕ}
      → Going s → Free M s l
      → Moves M s (Decide l) (add s l Decided)
  propagate : {c l : ℕ} {R : List ℕ}
      → Going s → Free M s l → Live s c R → Contains R l → FalseBut s.trail l R
      → Moves M s (Propagate c l) (add s l (Clause c))
  imply : {l : ℕ}
      → Going s → Free M s l → Possible M (asserted s.trail) → Impossible M (denying s.trail l)
      → Moves M s (Imply l) (add s l Theory)
  conflict : {c : ℕ} {R C : List ℕ}
      → Going s → s.conflict ≡ None → Live s c R → FalseAll s.trail R → SetOf (Contains R) C
      → Moves M s (Conflict c) (dispute s C)
  clash : {core C : List ℕ}
      → Going s → s.conflict ≡ None → M.answer (asserted s.trail) ≡ impossible core → SetOf (Contains (blamed (asserted s.trail) core)) C
      → Moves M s Clash (dispute s C)
  resolve : {C R D : List ℕ} {e : Entry} {before : List Entry}
      → Going s → s.conflict ≡ Some C → Latest C s.trail e before → Explained M s e before R → SetOf (Resolved C e.literal R) D
      → Moves M s Resolve (dispute s D)
  jump : {k c l : ℕ} {C : List ℕ} {kept : List Entry}
      → Going s → s.conflict ≡ Some C → OneAbove k C s.trail l → IsLearned c → NotLive s c → Cut k s.trail kept
      → Moves M s (Jump k c) (next s (put s c (Some C)) (entered l (Clause c) kept) None None)
  forget : {c : ℕ} {R : List ℕ}
      → Going s → Live s c R → IsLearned c → ¬ IsReason s.trail c
      → Moves M s (Forget c) (next s (put s c None) s.trail s.conflict None)
  fit : {len : ℕ}
      → Going s → s.conflict ≡ None → ((i : ℕ) → i < M.claims → ClaimOn s.trail (2 * i)) → All (SomeTrue s.trail) s.book
      → Possible M (asserted s.trail) → M.terms ≤ len
      → Moves M s (Fit len) (end s verdict.Fit)
  no_fit : Going s → s.conflict ≡ Some []
      → Moves M s NoFit (end s verdict.NoFit)
