use Rattle.std.proofs.Common.{◌≤◌, length, vec_items, ap, arith}
use Rattle.theory.specs.Asserted.{literals_of}
use Rattle.equality.proofs.Growing.{merges_few}
use Rattle.equality.proofs.Holding.{held, held_few}
use Rattle.equality.proofs.state.calls.EqualityTheory.query.Goals as goal
use Rattle.equality.proofs.state.calls.EqualityTheory.query.Goals.{Start}

-- there are no more literals than claims
few : (c : Start) → length (literals_of c.args.self.now.list) ≤ length c.args.self.now.claims.now
few c =
    let s = c.args.self.now in
    held_few s.closure.terms.records.now s.claims.now (literals_of s.list) (vec_items s.merges) (vec_items s.closure.steps) (held s)

pub core-requires-clause-long : goal.core-requires-clause-long
core-requires-clause-long c =
    let s = c.args.self.now in
    omega (arith, merges_few s.closure.terms.records.now s.closure.steps.items s.closure.formed, s.closure.terms.few, s.marks_long, ap length c.deref_mut.ensures.value)

pub core-requires-clause-short : goal.core-requires-clause-short
core-requires-clause-short c = omega (arith, few (goal.at.core-requires-clause-short c).Start, c.args.self.now.few, ap length c.literals-list.ensures)

pub core-requires-clause-within : goal.core-requires-clause-within
core-requires-clause-within c = omega (arith, few (goal.at.core-requires-clause-within c).Start, c.if-place-self.false, ap length c.literals-list.ensures)
