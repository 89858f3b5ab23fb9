-- What a theory is asked about a trail. Assumes nothing.
use Rattle.std.specs.Prelude.{◌≡◌, ℕ, List, take, Option, Some, None, Ok, Err}
use Rattle.theory.specs.declared.refusal.Found.{Found}
use Rattle.theory.specs.declared.refusal.Found.TheVariants.{Possible, Impossible}
use Rattle.theory.specs.Calls.{Told}
use Rattle.theory.specs.Meaning.{Meaning, possible, impossible}

-- the length of the core, which stands at the front of a place; none where the list is possible
abbrev pub Asked : Meaning → List ℕ → List ℕ → Option ℕ → Type 0
Asked M ls place None = M.answer ls ≡ possible
Asked M ls place (Some len) = M.answer ls ≡ impossible (take len place)

-- the length of a core, where one was found
abbrev pub found_len : Told Found → Option ℕ
found_len (Ok Possible) = None
found_len (Ok (Impossible len)) = Some len
found_len (Err r) = None
