use Rattle.std.proofs.Common.{arith, rules}
use Rattle.clauses.proofs.Sets.{empty_set}
use Rattle.clauses.proofs.set.LiteralSet.is_empty.Goals as goal

pub returns : goal.returns
returns c = empty_set c.args.self.now.marks c.all.result (omega arith) (search rules)
