use Rattle.difference.proofs.Samples.{samples}
use Rattle.difference.proofs.samples_stand.Goals as goal

pub returns : goal.returns
returns c = samples
