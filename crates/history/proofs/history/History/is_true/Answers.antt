use Rattle.history.proofs.Reading.{on_trail}
use Rattle.history.proofs.history.History.is_true.Goals as goal

pub returns : goal.returns
returns g c = on_trail _ c.args.l c.is_true.result c.is_true.ensures
