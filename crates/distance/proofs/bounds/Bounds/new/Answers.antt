use Rattle.std.proofs.Common.{◌≡◌, length, replicate, None, vec_items, sym, subst, rules}
use Rattle.distance.specs.Index.{Heads}
use Rattle.distance.proofs.Indexing.{heads_none}
use Rattle.distance.proofs.bounds.Bounds.new.Goals as goal

pub invariant_of-result-clause-heads_are : goal.invariant_of-result-clause-heads_are
invariant_of-result-clause-heads_are c =
    let none : vec_items c.in_ok-heads.heads ≡ replicate c.args.terms None = c.in_ok-heads.ensures.items_if_clones_equal (λ y e. search rules) in
    subst (λ z. Heads z (length z) (vec_items c.in_ok-heads.heads)) (sym c.in_ok-items.ensures.items) (heads_none c.args.terms (vec_items c.in_ok-heads.heads) none)
