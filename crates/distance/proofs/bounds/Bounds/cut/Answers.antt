use Rattle.std.proofs.Common.{◌≡◌, ◌<◌, List, length, take, vec_items, ap, ◌∙◌, subst, arith}
use Rattle.std.specs.Vec.{with_items}
use Rattle.std.proofs.lemmas.List.{with_items_is, length-take-le}
use Rattle.difference.specs.declared.bound.Bound.{Bound}
use Rattle.difference.specs.Depth.{Small}
use Rattle.distance.specs.Index.{Heads}
use Rattle.distance.proofs.Indexing.{heads_cut, nexts_cut, each_take}
use Rattle.distance.proofs.bounds.Bounds.cut.Goals as goal

pub invariant_of-self : goal.invariant_of-self
invariant_of-self c =
    let s = c.args.self.now in
    let bs : List Bound = vec_items s.items in
    let long : length c.unlink.new.heads ≡ s.heads.len = c.unlink.auto.heads ∙ c.deref_mut.ensures.len in
    let same : (with_items s.heads c.unlink.new.heads).items ≡ c.unlink.new.heads = with_items_is s.heads c.unlink.new.heads long in
    let hs : Heads bs c.args.k c.unlink.new.heads = subst (λ z. Heads z c.args.k c.unlink.new.heads) c.deref.ensures.value c.unlink.ensures in
    let n : length (take c.args.k bs) ≡ c.args.k = length-take-le c.args.k bs c.requires in
    record {
      few_terms = s.few_terms;
      few = s.few;
      fits = omega (arith, ap length c.truncate.ensures.items, n, c.requires, s.fits);
      room = omega (arith, c.truncate.ensures.capacity, s.room);
      named = simp (c.truncate.ensures.items) (each_take (λ (b : Bound). (b.term < s.terms) × (b.base < s.terms)) bs c.args.k c.requires s.named);
      small = simp (c.truncate.ensures.items) (each_take Small bs c.args.k c.requires s.small);
      head_each = ap length same ∙ long ∙ s.heads.ok.0 ∙ s.head_each;
      heads_are = simp (c.truncate.ensures.items, same) (heads_cut bs c.args.k c.requires c.unlink.new.heads hs);
      nexts_are = simp (c.truncate.ensures.items) (nexts_cut bs c.args.k c.requires (vec_items s.nexts) s.nexts_are);
    }
