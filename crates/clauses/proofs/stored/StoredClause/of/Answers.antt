use Rattle.std.proofs.Common.{◌≡◌, ℕ, ap, ◌∙◌, sym, arith}
use Rattle.theory.specs.Literals.{has}
use Rattle.theory.specs.Positions.{listed}
use Rattle.clauses.specs.Sets.{members}
use Rattle.clauses.specs.Stored.{clause_of}
use Rattle.clauses.proofs.Sets.{stored_more, stored_skip, members_set}
use Rattle.clauses.proofs.stored.StoredClause.of.Goals as goal
use Rattle.clauses.proofs.stored.StoredClause.of.Goals.{then-has, else-has}

pub loop-l-init : goal.loop-l-init
unfolding listed
loop-l-init c = c.empty-clause.ensures

pub loop-l-preserved : goal.loop-l-preserved
loop-l-preserved c =
    let test = has (members c.args.set.now) in
    let l = c.loop-l.l in
    elim c.if-has.branch [
      | then-has w ↦ ap clause_of w.clause-is ∙ w.push.ensures ∙ stored_more (clause_of c.loop-l.clause) l test c.loop-l-test.true c.loop-l.invariant (sym c.has.ensures ∙ w.if-has.true)
      | else-has w ↦ ap clause_of w.clause-is ∙ stored_skip (clause_of c.loop-l.clause) l test c.loop-l.invariant (sym c.has.ensures ∙ w.if-has.false)
    ]

pub returns : goal.returns
returns c =
    let e : c.loop-l.l ≡ 256 = omega arith in
    c.loop-l.invariant ∙ ap (λ (k : ℕ). listed 0 k (has (members c.args.set.now))) e ∙ members_set c.args.set.now
