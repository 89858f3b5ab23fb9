-- What a trial answers, and what a query under a trial does. Assumes nothing.
use Rattle.std.specs.Prelude.{ℕ, List, [], ◌∷◌, ◌++◌, length, Ok, Err}
use Rattle.theory.specs.declared.refusal.Found.{Found}
use Rattle.theory.specs.declared.trial.Trial.{Trial}
use Rattle.theory.specs.Meaning.{Answer}
use Rattle.theory.specs.Calls.{Told, asserting, query_says, query_leaves}

-- how long the list was before the trial
abbrev pub length_before : Trial → ℕ
length_before t = t.len

-- ---- where there are `n` claims

-- a duty that knows how long the list was
abbrev pub trial_says : ℕ → List ℕ → ℕ → Told Trial
trial_says n ls l = asserting n ls l Err (Ok (record { len = length ls }))

abbrev pub trial_query_says : ℕ → (List ℕ → Answer) → List ℕ → ℕ → List ℕ → Told Found
trial_query_says n answer ls l place = asserting n ls l Err (query_says n (answer (ls ++ l ∷ [])) place)

abbrev pub trial_query_leaves : ℕ → (List ℕ → Answer) → List ℕ → ℕ → List ℕ → List ℕ
trial_query_leaves n answer ls l place = asserting n ls l (λ r. place) (query_leaves n (answer (ls ++ l ∷ [])) place)
