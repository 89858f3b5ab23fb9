use Rattle.rules.proofs.Reached.{reached_known}
use Rattle.history.specs.Seen.{state}
use Rattle.history.proofs.Reading.{live_read}
use Rattle.history.proofs.history.History.is_live.Goals as goal

pub returns : goal.returns
returns g c =
    let h = c.args.self.now in
    let known = reached_known _ (g.met.T.Theory.lawful h.theory) (state h) h.linked.reached in
    live_read (state h) known.facts.few_clauses c.args.c c.is_live.result c.is_live.ensures
