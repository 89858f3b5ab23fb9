use Rattle.std.proofs.Common.{◌≡◌, ◌++◌, map, take, drop, string_bytes}
use Rattle.std.specs.List.{All}
use Rattle.book.specs.Books.{proposed_of}
use Rattle.book.specs.Canonical.{text_of, step_line, StepFits}
use Rattle.book.proofs.writing.write_steps.Given as goal

abbrev pub invariant-loop-step : goal.invariant-loop-step
invariant-loop-step l =
    (string_bytes l.out ++ text_of (map step_line (map (proposed_of l.terms) (drop l.step-index l.steps))) ≡ string_bytes l.fn.out ++ text_of (map step_line (map (proposed_of l.terms) l.steps)))
    × All (λ k. StepFits (proposed_of l.terms k)) (take l.step-index l.steps)
