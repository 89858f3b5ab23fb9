-- What a recorder has seen. Assumes nothing.
use Rattle.std.specs.Prelude.{List, [], ◌∷◌, ◌++◌, Option, Some, None}
use Rattle.rules.specs.declared.step.Step.{Step}

-- some steps more; of a recorder that keeps nothing nothing is claimed
abbrev pub grown : Option (List Step) → List Step → Option (List Step)
grown None steps = None
grown (Some seen) steps = Some (seen ++ steps)

abbrev pub pushed : Option (List Step) → Step → Option (List Step)
pushed seen step = grown seen (step ∷ [])
