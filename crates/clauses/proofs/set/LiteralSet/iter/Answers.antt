use Rattle.clauses.proofs.Sets.{members_set}
use Rattle.clauses.proofs.set.LiteralSet.iter.Goals as goal

pub returns : goal.returns
returns c = members_set c.args.self.now
