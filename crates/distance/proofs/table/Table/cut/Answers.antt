use Rattle.std.proofs.Common.{◌≡◌, min, length, take, vec_items, subst, arith}
use Rattle.distance.proofs.Holding.{Held, held, held_cut, held_as}
use Rattle.distance.proofs.table.Table.cut.Goals as goal

pub invariant_of-self-2 : goal.invariant_of-self-2
invariant_of-self-2 c =
    let s = c.args.self.now in
    let b = s.work.bounds in
    let g : min c.args.k s.good ≡ c.min-self.result = omega (arith, c.min-self.ensures) in
    let h = held_cut b.terms (length (vec_items b.nexts)) (vec_items b.items) (vec_items s.rows) s.good (vec_items s.marks) (held s) c.args.k c.requires in
    let t = held_as c.cut.new.self (vec_items s.rows) c.min-self.result (vec_items s.marks) c.cut.ensures.terms c.cut.ensures.most c.cut.ensures.items
    (subst (λ z. Held b.terms (length (vec_items b.nexts)) (take c.args.k (vec_items b.items)) (vec_items s.rows) z (vec_items s.marks)) g h) in
    record { reached = t.reached; possible = t.possible; broken = t.broken; row_each = t.row_each; mark_each = t.mark_each }
