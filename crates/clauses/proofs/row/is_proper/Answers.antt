use Rattle.std.proofs.Common.{◌+◌, ◌*◌, ◌<◌, get_or, sym, ap, ◌∙◌, subst, arith, refl}
use Rattle.std.proofs.lemmas.Bool.{true≢false}
use Rattle.std.proofs.lemmas.List.{take_rest, drop_all}
use Rattle.theory.specs.Literals.{names, Proper}
use Rattle.clauses.proofs.Rows.{proper_goes, proper_from, proper_none}
use Rattle.clauses.proofs.row.is_proper.Goals as goal
use Rattle.clauses.proofs.row.is_proper.Goals.{then-from-claims-via-then-from-claims, then-from-claims-via-else-from-claims+then-names}

pub loop-i-init : goal.loop-i-init
loop-i-init c = (λ p. p, λ p. p)

pub returns-then-from-claims : goal.returns-then-from-claims
returns-then-from-claims c =
    let xs = c.args.clause.now in
    let i = c.loop-i.i in (
      λ e. absurd (true≢false (sym e)),
      λ p.
          let g = proper_goes c.args.claims xs i c.loop-i-test.true (c.loop-i.invariant.1 p) in
          absurd (elim c.then-from-claims.branch [
            | then-from-claims-via-then-from-claims w ↦ omega (arith, g.low)
            | then-from-claims-via-else-from-claims+then-names w ↦
                true≢false (sym w.if-names.true ∙ w.names.ensures ∙ ap (λ ys. names ys (get_or xs i 0)) (take_rest xs (i + 1)) ∙ g.new)
          ]),
    )

pub loop-i-preserved : goal.loop-i-preserved
loop-i-preserved c =
    let xs = c.args.clause.now in
    let i = c.loop-i.i in
    let new = ap (λ ys. names ys (get_or xs i 0)) (sym (take_rest xs (i + 1))) ∙ sym c.names.ensures ∙ c.if-names.false in
    let low : get_or xs i 0 < 2 * c.args.claims = omega arith in (
      λ p. c.loop-i.invariant.0 (proper_from c.args.claims xs i c.loop-i-test.true (record { low = low; new = new; rest = p })),
      λ p. (proper_goes c.args.claims xs i c.loop-i-test.true (c.loop-i.invariant.1 p)).rest,
    )

pub returns : goal.returns
returns c =
    (λ e. c.loop-i.invariant.0 (subst (Proper c.args.claims) (sym (drop_all c.loop-i.i c.args.clause.now c.loop-i-test.false)) (proper_none c.args.claims)), λ p. refl)
