use Rattle.std.proofs.Common.{map, ap, rules}
use Rattle.std.specs.Option.{option_map}
use Rattle.clauses.specs.Stored.{clause_of}
use Rattle.clauses.proofs.learned.Learned.new.Goals as goal

pub returns : goal.returns
returns c = ap (map (option_map clause_of)) (c.in_ok-places.ensures.items_if_clones_equal (λ y h. search rules))
