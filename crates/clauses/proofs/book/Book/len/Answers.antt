use Rattle.std.proofs.Common.{vec_items, length, ap, arith}
use Rattle.clauses.specs.Rows.{clauses_in}
use Rattle.clauses.proofs.Rows.{starts_long}
use Rattle.clauses.proofs.book.Book.len.Goals as goal

pub returns : goal.returns
returns c =
    let b = c.args.self.now in
    omega (arith, c.len.ensures, b.starts.ok.0, ap length b.begin, starts_long 0 (clauses_in (vec_items b.row)))
