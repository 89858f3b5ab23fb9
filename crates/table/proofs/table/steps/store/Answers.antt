use Rattle.std.proofs.lemmas.List.{map-set}
use Rattle.clauses.specs.Stored.{clause_of}
use Rattle.table.proofs.table.steps.store.Goals as goal

pub returns-then-p-clauses : goal.returns-then-p-clauses
returns-then-p-clauses c = map-set clause_of c.args.clauses.now c.args.p c.args.clause
