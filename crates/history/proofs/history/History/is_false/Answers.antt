use Rattle.history.proofs.Reading.{false_trail}
use Rattle.history.proofs.history.History.is_false.Goals as goal

pub returns : goal.returns
returns g c = false_trail _ c.args.l c.is_false.result c.is_false.ensures
