use Rattle.std.proofs.Common.{◌≡◌, ◌-◌, length}
use Rattle.history.specs.Seen.{means, shape, state}
use Rattle.search.specs.Runs.{Ran}
use Rattle.search.proofs.solving.run.Given as goal

abbrev pub invariant-loop-history : goal.invariant-loop-history
invariant-loop-history g l = record {
  shape : shape l.history ≡ shape l.initial.history;
  ran : Ran (means l.initial.history) (state l.initial.history) (state l.history) l.initial.fit l.fit (g.R.Recorder.seen l.initial.recorder) (g.R.Recorder.seen l.recorder);
  room : length l.fit ≡ length l.initial.fit;
}

abbrev pub decreases-loop-history : goal.decreases-loop-history
decreases-loop-history g l = (state l.history).allowance - (state l.history).count
