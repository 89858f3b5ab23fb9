-- What each call of a theory answers, and what it leaves. Assumes nothing.
use Rattle.std.specs.Prelude.{ℕ, ◌*◌, if◌then◌else◌, List, [], ◌∷◌, ◌++◌, length, take, drop, ℤ, Ok, Err, Result, nat_lt}
use Rattle.theory.specs.declared.refusal.Refusal.{Refusal}
use Rattle.theory.specs.declared.refusal.Refusal.TheVariants.{NoSuchLiteral, ClaimOnList, AboveLength, ShortCorePlace, ShortFitPlace, ListImpossible}
use Rattle.theory.specs.declared.refusal.Found.{Found}
use Rattle.theory.specs.declared.refusal.Found.TheVariants.{Possible, Impossible}
use Rattle.theory.specs.Literals.{names}
use Rattle.theory.specs.Meaning.{Answer, possible, impossible}

-- what a caller is told: a value, or why the call is refused
abbrev pub Told : Type 0 → Type 0
Told V = Result V Refusal

-- a list written over the front of a place; the rest stays
abbrev pub over : {V : Type 0} → List V → List V → List V
over xs place = xs ++ drop (length xs) place

-- ---- Assert, where there are `n` claims

-- a literal is taken if there is a claim that has it, and that claim is not on the list; any other is refused
abbrev pub asserting : {V : Type 0} → ℕ → List ℕ → ℕ → (Refusal → V) → V → V
asserting n ls l refused taken =
    if nat_lt l (2 * n) then (if names ls l then refused ClaimOnList else taken) else refused NoSuchLiteral

abbrev pub assert_says : ℕ → List ℕ → ℕ → Told (Unit {0})
assert_says n ls l = asserting n ls l Err (Ok tt)

abbrev pub assert_leaves : ℕ → List ℕ → ℕ → List ℕ
assert_leaves n ls l = asserting n ls l (λ r. ls) (ls ++ l ∷ [])

-- ---- Take back

abbrev pub take_back_says : List ℕ → ℕ → Told (Unit {0})
take_back_says ls k = if nat_lt (length ls) k then Err AboveLength else Ok tt

abbrev pub take_back_leaves : List ℕ → ℕ → List ℕ
take_back_leaves ls k = if nat_lt (length ls) k then ls else take k ls

-- ---- Query, where there are `n` claims and the list is answered `a`

abbrev pub told : Answer → Found
told possible = Possible
told (impossible core) = Impossible (length core)

abbrev pub core_over : Answer → List ℕ → List ℕ
core_over possible place = place
core_over (impossible core) place = over core place

abbrev pub query_says : ℕ → Answer → List ℕ → Told Found
query_says n a place = if nat_lt (length place) n then Err ShortCorePlace else Ok (told a)

abbrev pub query_leaves : ℕ → Answer → List ℕ → List ℕ
query_leaves n a place = if nat_lt (length place) n then place else core_over a place

-- ---- Write, where there are `m` terms and the list is answered `a`

abbrev pub fit_says : Answer → Told (Unit {0})
fit_says possible = Ok tt
fit_says (impossible core) = Err ListImpossible

abbrev pub fit_over : Answer → List ℤ → List ℤ → List ℤ
fit_over possible fit place = over fit place
fit_over (impossible core) fit place = place

abbrev pub write_says : ℕ → Answer → List ℤ → Told (Unit {0})
write_says m a place = if nat_lt (length place) m then Err ShortFitPlace else fit_says a

abbrev pub write_leaves : ℕ → Answer → List ℤ → List ℤ → List ℤ
write_leaves m a fit place = if nat_lt (length place) m then place else fit_over a fit place
