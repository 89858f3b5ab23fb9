use Rattle.std.proofs.Common.{◌≡◌, ◌<◌, List, length, None, vec_items, sym, ap, ◌∙◌, arith}
use Rattle.std.proofs.lemmas.List.{get_or_read}
use Rattle.difference.specs.declared.bound.Bound.{Bound}
use Rattle.distance.specs.Index.{onward}
use Rattle.distance.proofs.Indexing.{latest, latest_below, onward_latest}
use Rattle.distance.proofs.bounds.Bounds.based.Goals as goal
use Rattle.distance.proofs.bounds.Bounds.based.Goals.{After-index}

link_is : (c : After-index) → c.index.result.now ≡ latest (vec_items c.args.self.now.items) (length (vec_items c.args.self.now.items)) c.args.x
link_is c =
    let s = c.args.self.now in
    let on : c.args.x < length (vec_items s.heads) = omega (arith, c.requires, s.head_each) in
    get_or_read (vec_items s.heads) c.from.result c.index.result.now (omega (arith, on, c.from.ensures)) c.index.ensures None
    ∙ s.heads_are c.from.result (omega (arith, on, c.from.ensures)) ∙ ap (latest (vec_items s.items) (length (vec_items s.items))) c.from.ensures

pub invariant_of-result : goal.invariant_of-result
invariant_of-result c =
    let bs : List Bound = vec_items c.args.self.now.items in
    record { within = λ q e. latest_below bs (length bs) c.args.x q (sym (link_is (goal.at.invariant_of-result c).After-index) ∙ e) }

pub returns : goal.returns
returns c =
    let bs : List Bound = vec_items c.args.self.now.items in
    ap (onward bs) (link_is (goal.at.returns c).After-index) ∙ onward_latest bs c.args.x (length bs)
