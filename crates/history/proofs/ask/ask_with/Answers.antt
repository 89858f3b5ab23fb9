use Rattle.std.proofs.Common.{[], ◌∷◌, ◌++◌, ◌≤◌, IfSome, subst, sym, arith}
use Rattle.theory.specs.Members.{meaning}
use Rattle.history.specs.Asking.{Asked}
use Rattle.history.proofs.Asking.{asked_with, few_found_with}
use Rattle.history.proofs.ask.ask_with.Goals as goal

pub returns-clause-asked : goal.returns-clause-asked
returns-clause-asked g c =
    let few = (g.met.T.Theory.lawful c.args.theory.now).few_claims in
    subst (Asked (meaning g.T.Theory c.args.theory.now) (g.T.Theory.asserted c.args.theory.now ++ c.args.l ∷ []) c.query_with.new.core) (sym c.core_len.ensures)
    (asked_with (meaning g.T.Theory c.args.theory.now) (g.T.Theory.asserted c.args.theory.now) c.args.place.now c.query_with.new.core c.args.l c.query_with.result
    (omega (arith, few, c.requires.room)) c.requires.below c.requires.off c.query_with.ensures.says c.query_with.ensures.place)

pub returns-clause-few : goal.returns-clause-few
returns-clause-few g c =
    subst (λ r. IfSome r (λ len. len ≤ 128)) (sym c.core_len.ensures)
    (few_found_with (meaning g.T.Theory c.args.theory.now) (g.met.T.Theory.lawful c.args.theory.now) (g.T.Theory.asserted c.args.theory.now) c.args.place.now c.args.l c.query_with.result (g.met.T.Theory.proper c.args.theory.now) c.requires.below c.requires.off c.query_with.ensures.says)
