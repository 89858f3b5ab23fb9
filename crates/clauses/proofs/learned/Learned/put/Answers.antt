use Rattle.std.proofs.Common.{vec_items}
use Rattle.std.proofs.lemmas.List.{map-set}
use Rattle.std.specs.Option.{option_map}
use Rattle.clauses.specs.Stored.{clause_of}
use Rattle.clauses.proofs.learned.Learned.put.Goals as goal

pub returns-in-Some : goal.returns-in-Some
returns-in-Some c = map-set (option_map clause_of) (vec_items c.args.self.now.places) c.args.i c.args.clause
