use Rattle.std.proofs.Common.{◌∙◌}
use Rattle.rules.specs.Rules.{live_in}
use Rattle.table.specs.Tables.{blames_of}
use Rattle.history.specs.Seen.{means, state}
use Rattle.history.proofs.Blames.{explained_at_same}
use Rattle.history.proofs.history.History.explanation.Goals as goal

pub returns : goal.returns
returns g c =
    let h = c.args.self.now in
    c.explanation.ensures ∙ explained_at_same (means h) (blames_of h.table) (live_in (state h)) (state h).trail h.linked.explains c.args.p
