use Rattle.congruence.proofs.Samples.{samples}
use Rattle.congruence.proofs.samples_stand.Goals as goal

pub returns : goal.returns
returns c = samples
