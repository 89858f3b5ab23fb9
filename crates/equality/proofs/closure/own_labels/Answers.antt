use Rattle.std.proofs.Common.{rules}
use Rattle.equality.proofs.closure.own_labels.Goals as goal

pub returns : goal.returns
returns c t h = let k = (c.from_fn.ensures.items.at t 0 h).2 in search rules
