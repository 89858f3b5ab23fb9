use Rattle.std.proofs.Common.{arith, rules}
use Rattle.clauses.proofs.Rows.{clauses_none, clauses_first, clauses_stop}
use Rattle.clauses.proofs.row.ClausesIterator.next.Goals as goal

pub returns-in_err-count-clause-steps : goal.returns-in_err-count-clause-steps
returns-in_err-count-clause-steps c = let e = clauses_none c.args.self.now.0.now c.in_err-count.ensures.cases in search rules

pub returns-in_err-clause-clause-steps : goal.returns-in_err-clause-clause-steps
returns-in_err-clause-clause-steps c =
    let e = clauses_stop _ _ c.in_ok-count.rest.now c.in_ok-count.ensures.cases (omega (arith, c.in_err-clause.ensures.cases, c.from.ensures)) in search rules

pub returns-clause-steps : goal.returns-clause-steps
returns-clause-steps c = clauses_first _ _ _ _ _ _ c.in_ok-count.ensures.cases c.from.ensures c.in_ok-clause.ensures.cases

pub returns-clause-goes : goal.returns-clause-goes
returns-clause-goes c = let e = clauses_first _ _ _ _ _ _ c.in_ok-count.ensures.cases c.from.ensures c.in_ok-clause.ensures.cases in search rules
