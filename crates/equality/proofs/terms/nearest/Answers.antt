use Rattle.std.proofs.Common.{◌≡◌, refl, ◌∙◌, rules}
use Rattle.equality.proofs.Nearest.{last_found}
use Rattle.equality.proofs.terms.nearest.Goals as goal

pub returns : goal.returns
returns c =
    let e : c.map.result ≡ c.last_like.result = search rules in
    e ∙ last_found c.args.records.now c.args.t _ c.last_like.result refl c.requires.term c.last_like.ensures
