use Rattle.std.proofs.Common.{vec_len}
use Rattle.inkstep.proofs.answers.Session.end.Given as goal

abbrev pub decreases-loop-trial : goal.decreases-loop-trial
decreases-loop-trial g l = vec_len l.open
