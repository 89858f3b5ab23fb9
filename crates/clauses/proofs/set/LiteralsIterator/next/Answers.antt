use Rattle.std.proofs.Common.{◌≡◌, [], ◌∙◌, sym, rules, arith}
use Rattle.theory.specs.Literals.{has}
use Rattle.clauses.specs.Left.{literals_left}
use Rattle.clauses.specs.Sets.{members}
use Rattle.clauses.proofs.Sets.{left_skip, left_take, left_none}
use Rattle.clauses.proofs.set.LiteralsIterator.next.Goals as goal

pub returns-then-has-clause-steps : goal.returns-then-has-clause-steps
returns-then-has-clause-steps c =
    let l = c.loop-self.self in
    sym c.loop-self.invariant ∙ left_take (has (members l.set.now)) l.next c.loop-self-test.true (sym c.has.ensures ∙ c.if-has.true)

pub returns-then-has-clause-goes : goal.returns-then-has-clause-goes
returns-then-has-clause-goes c = let e = returns-then-has-clause-steps c in search rules

pub loop-self-preserved : goal.loop-self-preserved
loop-self-preserved c =
    let l = c.loop-self.self in
    sym (left_skip (has (members l.set.now)) l.next c.loop-self-test.true (sym c.has.ensures ∙ c.if-has.false)) ∙ c.loop-self.invariant

pub returns-clause-steps : goal.returns-clause-steps
returns-clause-steps c =
    let l = c.loop-self.self in
    let none : literals_left l ≡ [] = left_none (has (members l.set.now)) l.next (omega arith) in
    (sym c.loop-self.invariant ∙ none, none)
