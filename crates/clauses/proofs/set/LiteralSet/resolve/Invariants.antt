use Rattle.std.proofs.Common.{◌≡◌, take}
use Rattle.rules.specs.Rules.{resolved}
use Rattle.clauses.specs.Sets.{members}
use Rattle.clauses.proofs.set.LiteralSet.resolve.Given as goal

abbrev pub invariant-loop-m : goal.invariant-loop-m
invariant-loop-m l = members l.self ≡ resolved (members l.fn.self) l.l (take l.m-index l.clause)
