use Rattle.std.proofs.Common.{◌≡◌, ◌≤◌, length, vec_items, vec_capacity}
use Rattle.theory.specs.Members.{meaning}
use Rattle.table.specs.Tables.{state_of}
use Rattle.history.specs.Replays.{judged_as}
use Rattle.history.proofs.Playing.{Playing}
use Rattle.history.proofs.played.replay.Given as goal

abbrev pub invariant-loop-step : goal.invariant-loop-step
invariant-loop-step g l =
    (g.T.Theory.shape_of l.history.theory ≡ g.T.Theory.shape_of l.fn.theory)
    × (length l.steps ≤ vec_capacity l.answers)
    × Playing (meaning g.T.Theory l.fn.theory) (state_of l.initial.history.table).book l.fn.allowance (judged_as (length l.fn.place) l.steps) l.fn.place
    (state_of l.history.table) (vec_items l.answers) l.place l.step-index
