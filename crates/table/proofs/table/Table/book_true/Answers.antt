use Rattle.std.proofs.Common.{ap, ◌∙◌, rules}
use Rattle.std.proofs.lemmas.Iterator.Search.{all_from_yields_List}
use Rattle.std.specs.List.{list_all, list_any}
use Rattle.rules.specs.Rules.{true_on}
use Rattle.clauses.proofs.Rows.{clauses_chain}
use Rattle.trail.specs.Trails.{trail_of}
use Rattle.table.proofs.table.Table.book_true.Goals as goal
use borrow.Author.Tests.{tests}

pub returns : goal.returns
returns c =
    let test = list_any (true_on (trail_of c.args.self.now.trail)) in
    all_from_yields_List test c.all.new.self _ c.all.result c.all.ensures.ran (clauses_chain c.clauses.result) (λ x b q k. search (rules, tests))
    ∙ ap (list_all test) c.clauses.ensures
