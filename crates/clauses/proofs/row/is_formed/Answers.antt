use Rattle.std.proofs.Common.{◌≡◌, length, sym, rules}
use Rattle.std.proofs.lemmas.Bool.{true≢false}
use Rattle.std.proofs.lemmas.Iterator.Consumers.{count_from_yields_List}
use Rattle.clauses.specs.Rows.{clauses_in}
use Rattle.clauses.proofs.Rows.{clauses_few, clauses_chain, formed, too_many}
use Rattle.clauses.proofs.row.is_formed.Goals as goal

pub count-clauses-requires-clause-fits : goal.count-clauses-requires-clause-fits
count-clauses-requires-clause-fits c = search (rules, clauses_few)

pub returns-then-clauses-gt-MOST_CLAUSES : goal.returns-then-clauses-gt-MOST_CLAUSES
returns-then-clauses-gt-MOST_CLAUSES c =
    let row = c.args.row.now in
    let k : c.count-clauses.result ≡ length (clauses_in row) = count_from_yields_List _ c.count-clauses.result c.count-clauses.ensures.ran (clauses_chain _) in
    (λ e. absurd (true≢false (sym e)), λ f. absurd (too_many row c.count-clauses.result c.count_literals-literals.result k c.count_literals-literals.ensures c.then-clauses-gt-MOST_CLAUSES.either f))

pub returns : goal.returns
returns c =
    let row = c.args.row.now in
    let k : c.count-clauses.result ≡ length (clauses_in row) = count_from_yields_List _ c.count-clauses.result c.count-clauses.ensures.ran (clauses_chain _) in
    formed row c.count-clauses.result c.count_literals-literals.result k c.count_literals-literals.ensures c.if-clauses-gt-MOST_CLAUSES.false c.if-literals-gt-MOST_LITERALS.false
