use Rattle.std.proofs.Common.{◌≤◌, IfSome, subst, sym, arith}
use Rattle.theory.specs.Members.{meaning}
use Rattle.history.specs.Asking.{Asked}
use Rattle.history.proofs.Asking.{asked, few_found}
use Rattle.history.proofs.ask.ask.Goals as goal

pub returns-clause-asked : goal.returns-clause-asked
returns-clause-asked g c =
    let few = (g.met.T.Theory.lawful c.args.theory.now).few_claims in
    subst (Asked (meaning g.T.Theory c.args.theory.now) (g.T.Theory.asserted c.args.theory.now) c.query.new.core) (sym c.core_len.ensures)
    (asked (meaning g.T.Theory c.args.theory.now) (g.T.Theory.asserted c.args.theory.now) c.args.place.now c.query.new.core c.query.result
    (omega (arith, few, c.requires.room)) c.query.ensures.says c.query.ensures.place)

pub returns-clause-few : goal.returns-clause-few
returns-clause-few g c =
    subst (λ r. IfSome r (λ len. len ≤ 128)) (sym c.core_len.ensures)
    (few_found (meaning g.T.Theory c.args.theory.now) (g.met.T.Theory.lawful c.args.theory.now) (g.T.Theory.asserted c.args.theory.now) c.args.place.now c.query.result (g.met.T.Theory.proper c.args.theory.now) c.query.ensures.says)
