use Rattle.std.proofs.Common.{◌∙◌, ap}
use Rattle.theory.specs.Literals.{names}
use Rattle.history.specs.Seen.{means}
use Rattle.history.proofs.Next.{denial_off}
use Rattle.history.proofs.history.History.find_denied.Goals as goal

pub ask_with-requires-clause-off : goal.ask_with-requires-clause-off
ask_with-requires-clause-off g c =
    let h = c.args.self.now in
    ap (names (g.T.Theory.asserted h.theory)) c.complement_of.ensures ∙ denial_off (means h) (g.met.T.Theory.lawful h.theory) h.linked c.args.l c.requires
