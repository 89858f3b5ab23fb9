use Rattle.std.proofs.Common.{ap, ◌∙◌, sym, map}
use Rattle.std.specs.Option.{option_copied}
use Rattle.clauses.specs.Stored.{clause_of}
use Rattle.rules.specs.Rules.{live_in}
use Rattle.table.specs.Tables.{state_of, blames_of, by_reason}
use Rattle.table.proofs.Explained.{entry_explained, no_entry_explained}
use Rattle.table.proofs.table.Table.explanation.Goals as goal

pub returns-in_err-entry : goal.returns-in_err-entry
returns-in_err-entry c =
    let t = c.args.self.now in
    ap option_copied c.from_residual.ensures ∙ sym (no_entry_explained (live_in (state_of t)) (blames_of t) (state_of t).trail c.args.p (sym c.entry.ensures ∙ c.in_err-entry.was))

pub returns : goal.returns
returns c =
    let t = c.args.self.now in
    c.reason.ensures ∙ ap (λ bs. by_reason (live_in (state_of t)) (map clause_of bs) c.in_ok-entry.entry.reason c.args.p) c.deref.ensures.value
    ∙ entry_explained (live_in (state_of t)) (blames_of t) (state_of t).trail c.args.p c.in_ok-entry.entry (sym c.entry.ensures ∙ c.in_ok-entry.was)
