use Rattle.rules.proofs.SampleBooks.{samples}
use Rattle.rules.proofs.samples.samples_stand.Goals as goal

pub returns : goal.returns
returns g c = samples _
