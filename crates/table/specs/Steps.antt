-- What a table checks before a step, and what a step does to it. Assumes nothing.
use Rattle.std.specs.Prelude.{◌≡◌, ℕ, List, take, set, length, Ok, Err, Result}
use Rattle.std.specs.List.{list_all, list_any}
use Rattle.theory.specs.Literals.{complement}
use Rattle.rules.specs.declared.entry.Reason.TheVariants.{Theory}
use Rattle.rules.specs.declared.refusal.Refusal.{Refusal}
use Rattle.rules.specs.declared.refusal.Refusal.TheVariants.{ConflictStands, ClaimOffTrail, ClauseNotTrue}
use Rattle.rules.specs.States.{State, asserted, next, Outcome, says, leaves}
use Rattle.rules.specs.Rules.{unless_over, demand, without, fresh, true_on, conflicting, longer, full}
use Rattle.trail.specs.Trails.{blamed}
use Rattle.table.specs.declared.table.Table.{Table}
use Rattle.table.specs.Tables.{state_of, claims_of, blames_of}

-- ---- checks, where there are `n` claims

abbrev pub Check : Type 0
Check = Result (Unit {0}) Refusal

-- a step may be accepted that wants no conflict
abbrev pub calm : State → Check
calm s = unless_over s (without s.conflict ConflictStands (Ok tt))

-- a step may be accepted that puts a literal on the trail
abbrev pub may_enter : ℕ → State → ℕ → Check
may_enter n s l = unless_over s (fresh n s l (Ok tt))

-- no conflict, every claim on the trail, and a true literal in each clause of the book
abbrev pub complete : {A : Type 0} → ℕ → State → Result A Refusal → Result A Refusal
complete n s o =
    without s.conflict ConflictStands
    (demand (full n s.trail) ClaimOffTrail
    (demand (list_all (list_any (true_on s.trail)) s.book) ClauseNotTrue o))

abbrev pub may_end : ℕ → State → Check
may_end n s = unless_over s (complete n s (Ok tt))

-- ---- steps that a table cannot judge alone

-- one step more is counted
abbrev pub counted : State → State
counted s = next s s.learned s.trail s.conflict s.verdict

-- a literal that the theory implies
abbrev pub implying : ℕ → State → ℕ → Outcome
implying n s l = fresh n s l (Ok (longer s l Theory))

-- a clash with this core
abbrev pub clashing : State → List ℕ → Outcome
clashing s core = without s.conflict ConflictStands (Ok (conflicting s (take 256 (blamed (asserted s.trail) 0 core))))

-- one thing where a check was passed, another where it was not
abbrev pub if_allowed : {A B : Type 0} → Result A Refusal → B → B → B
if_allowed (Ok a) x y = x
if_allowed (Err r) x y = y

-- what is blamed once a literal is implied, with the core of the trail and the literal's complement
abbrev pub implied : ℕ → State → ℕ → List ℕ → List (List ℕ) → List (List ℕ)
implied n s l core blames =
    if_allowed (may_enter n s l) (set blames (length s.trail) (take 256 (blamed (asserted s.trail) (complement l) core))) blames

abbrev pub blaming : Table → ℕ → List ℕ → List (List ℕ)
blaming t l core = implied (claims_of t) (state_of t) l core (blames_of t)

-- ---- what a step does

-- a table before and after a step that is judged by a rule, what the caller is told, and what is blamed then
pub record Changes (t t' : Table) (told : Result ℕ Refusal) (rule : ℕ → State → Outcome) (kept : List (List ℕ)) : Type 0 where
  pub claims : claims_of t' ≡ claims_of t
  pub blames : blames_of t' ≡ kept
  pub state : state_of t' ≡ leaves (state_of t) (unless_over (state_of t) (rule (claims_of t) (state_of t)))
  pub says : told ≡ says (unless_over (state_of t) (rule (claims_of t) (state_of t)))

-- most steps leave what is blamed
abbrev pub Steps : Table → Table → Result ℕ Refusal → (ℕ → State → Outcome) → Type 0
Steps t t' told rule = Changes t t' told rule (blames_of t)

-- an implied literal has a clause blamed besides
abbrev pub Implies : Table → Table → Result ℕ Refusal → ℕ → List ℕ → Type 0
Implies t t' told l core = Changes t t' told (λ n s. implying n s l) (blaming t l core)
