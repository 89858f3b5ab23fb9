use Rattle.std.proofs.Common.{vec_items, slice_get, sym, ap, ◌∙◌, arith}
use Rattle.trail.proofs.Positions.{read_at, entry_turned}
use Rattle.trail.proofs.trail.Trail.entry.Goals as goal

pub returns : goal.returns
returns c =
    c.copied.ensures ∙ read_at _ c.args.p c.get.result c.get.ensures.lookup.0 (λ d. c.get.ensures.lookup.4 (omega arith) d)
    ∙ ap (λ xs. slice_get xs c.args.p) c.deref.ensures.value ∙ sym (entry_turned (vec_items c.args.self.now.entries) c.args.p)
