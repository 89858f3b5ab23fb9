use Rattle.std.proofs.Common.{refl, rules}
use Rattle.table.proofs.table.Table.propagate.Goals as goal

pub returns-in_err-check_fresh : goal.returns-in_err-check_fresh
returns-in_err-check_fresh c = record { claims = refl; blames = refl; state = search rules; says = search rules }
