use Rattle.std.proofs.Common.{vec_items, slice_get, sym, ap, ◌∙◌, arith}
use Rattle.trail.proofs.Positions.{read_at, level_turned}
use Rattle.trail.proofs.trail.Trail.level_at.Goals as goal

pub returns : goal.returns
returns c =
    let a = c.args.self.now in
    c.copied.ensures ∙ read_at _ c.args.p c.get.result c.get.ensures.lookup.0 (λ d. c.get.ensures.lookup.4 (omega arith) d)
    ∙ ap (λ xs. slice_get xs c.args.p) c.deref.ensures.value ∙ sym (level_turned (vec_items a.levels) (vec_items a.entries) c.args.p a.level_each a.leveled)
