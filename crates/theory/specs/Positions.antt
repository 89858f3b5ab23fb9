-- Rows of positions. Assumes nothing.
use Rattle.std.specs.Prelude.{ℕ, zero, suc, ◌+◌, Bool, true, false, if◌then◌else◌, List, [], ◌∷◌, length, Ok, Err, nat_lt, slice_index_or}
use Rattle.theory.specs.declared.refusal.Refusal.TheVariants.{PastLimit, ShortCorePlace}
use Rattle.theory.specs.Calls.{Told, over}

abbrev pub put : {A : Type 0} → Bool → A → List A → List A
put true x xs = x ∷ xs
put false x xs = xs

-- the numbers from `low` on, `count` of them, that pass a test, rising
unfoldable pub listed : ℕ → ℕ → (ℕ → Bool) → List ℕ
listed low zero test = []
listed low (suc count) test = put (test low) low (listed (low + 1) count test)

-- the marked positions, rising
abbrev pub marked : List Bool → List ℕ
marked marks = listed 0 (length marks) (λ p. slice_index_or marks p false)

-- putting them down, of at most 128 marks, into a place for as many numbers
abbrev pub marks_say : List Bool → List ℕ → Told ℕ
marks_say marks place =
    if nat_lt 128 (length marks) then Err PastLimit
    else (if nat_lt (length place) (length marks) then Err ShortCorePlace else Ok (length (marked marks)))

abbrev pub marks_leave : List Bool → List ℕ → List ℕ
marks_leave marks place =
    if nat_lt 128 (length marks) then place
    else (if nat_lt (length place) (length marks) then place else over (marked marks) place)
