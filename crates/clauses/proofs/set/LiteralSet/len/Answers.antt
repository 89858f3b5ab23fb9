use Rattle.std.proofs.Common.{◌≤◌, inl, length, ap, ◌∙◌, arith}
use Rattle.std.proofs.lemmas.Iterator.Consumers.{count_from_yields_List}
use Rattle.clauses.specs.Left.{literals_left}
use Rattle.clauses.proofs.Sets.{members_few, literals_chain}
use Rattle.clauses.proofs.set.LiteralSet.len.Goals as goal

pub count-requires-clause-fits : goal.count-requires-clause-fits
count-requires-clause-fits c =
    let few : length (literals_left c.iter.result) ≤ 256 = omega (arith, ap length c.iter.ensures, members_few c.args.self.now) in
    inl (omega arith)

pub returns : goal.returns
returns c =
    count_from_yields_List _ c.count.result c.count.ensures.ran (literals_chain c.iter.result) ∙ ap length c.iter.ensures
