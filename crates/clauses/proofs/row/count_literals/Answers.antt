use Rattle.std.proofs.Common.{◌<◌, ◌^◌, length, sum_by, ◌∙◌, arith, rules}
use Rattle.std.proofs.lemmas.Iterator.{YieldsList-from_map}
use Rattle.std.proofs.lemmas.Iterator.Consumers.{YieldsList-at, sum_by_from_yields_List, fits_by_from_yields_list}
use Rattle.clauses.specs.Rows.{clauses_in}
use Rattle.clauses.proofs.Rows.{clauses_few, clauses_chain, size_is}
use Rattle.clauses.proofs.row.count_literals.Goals as goal

pub sum-requires-clause-fits : goal.sum-requires-clause-fits
sum-requires-clause-fits c =
    let clauses = clauses_in c.args.row.now in
    let low : sum_by length clauses < 2 ^ 64 = omega (arith, clauses_few c.args.row.now, size_is clauses) in
    fits_by_from_yields_list length clauses c.map.result _
    (YieldsList-from_map _ length (YieldsList-at c.map.ensures.source (clauses_chain _)) c.map.ensures.closure (λ x r q k. search rules)) low

pub returns : goal.returns
returns c =
    let clauses = clauses_in c.args.row.now in
    sum_by_from_yields_List length clauses _ c.sum.result c.sum.ensures.ran
    (YieldsList-from_map _ length (YieldsList-at c.map.ensures.source (clauses_chain _)) c.map.ensures.closure (λ x r q k. search rules))
    ∙ size_is clauses
