use Rattle.std.proofs.Common.{take, sym, ap, ◌∙◌}
use Rattle.std.proofs.lemmas.List.{take-map}
use Rattle.theory.specs.Asserted.{literals_of}
use Rattle.theory.proofs.Lists.{take_back_take}
use Rattle.difference.specs.Distance.{bound_of, said}
use Rattle.distance.proofs.state.calls.DistanceTheory.take_back.Goals as goal

pub invariant_of-self-2-clause-says : goal.invariant_of-self-2-clause-says
invariant_of-self-2-clause-says c =
    let s = c.args.self.now in
    let claims = s.claims.now in
    c.cut.ensures.list ∙ ap (take c.args.k) s.says ∙ take-map (bound_of claims) c.args.k (literals_of s.list)
    ∙ ap (said claims) (sym (c.in_ok-take_back.ensures.list ∙ take_back_take (literals_of s.list) c.args.k))
