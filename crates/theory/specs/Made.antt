-- What making any theory gives. Assumes nothing.
use Rattle.std.specs.Prelude.{Ok, Err, Result}
use Rattle.theory.specs.declared.refusal.Refusal.{Refusal}
use Rattle.theory.specs.declared.refusal.Unmade.{Unmade}
use Rattle.theory.specs.declared.refusal.Unmade.TheVariants.{Refused, NoMemory}

-- sound records give a theory as it should be when new, or find no memory; others are barred by what they are refused for
abbrev pub Making : {T : Type 0} → Type 0 → (T → Type 0) → (Refusal → Type 0) → Result T Unmade → Type 0
Making Sound New Barred (Ok t) = Sound × New t
Making Sound New Barred (Err NoMemory) = Sound
Making Sound New Barred (Err (Refused x)) = Barred x
