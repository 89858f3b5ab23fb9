use Rattle.std.proofs.Common.{◌≡◌, ℕ, ◌<◌, [], ◌∷◌, ◌++◌, List, length, get_or, set, Option, Some, None, vec_items, ap, ◌∙◌, arith}
use Rattle.std.proofs.lemmas.List.{get_or_read, length-set, length_push}
use Rattle.difference.specs.declared.bound.Bound.{Bound}
use Rattle.difference.specs.Depth.{Small}
use Rattle.difference.proofs.Whole.{each_push}
use Rattle.distance.specs.Index.{Heads, Nexts}
use Rattle.distance.proofs.Indexing.{heads_more, nexts_more}
use Rattle.distance.proofs.bounds.Bounds.push.Goals as goal

pub invariant_of-self : goal.invariant_of-self
invariant_of-self c =
    let s = c.args.self.now in
    let bs : List Bound = vec_items s.items in
    let b : Bound = c.args.b in
    let heads : List (Option ℕ) = vec_items s.heads in
    let nexts : List (Option ℕ) = vec_items s.nexts in
    let on : b.base < length heads = omega (arith, c.requires.named.1, s.head_each) in
    let n_is : c.len-n.result ≡ length bs = c.len-n.ensures ∙ s.items.ok.0 in
    let was : c.index.result.now ≡ get_or heads c.from-x.result None = get_or_read heads c.from-x.result c.index.result.now (omega (arith, on, c.from-x.ensures)) c.index.ensures None in
    let hs : Heads (bs ++ b ∷ []) (length (bs ++ b ∷ [])) (set heads b.base (Some (length bs))) = heads_more bs b heads nexts s.heads_are s.nexts_are on c.requires.room in
    let ns : Nexts (bs ++ b ∷ []) (set nexts (length bs) (get_or heads b.base None)) = nexts_more bs b heads nexts s.heads_are s.nexts_are on c.requires.room in
    let ln = length-set nexts c.len-n.result c.index.result.now in
    record {
      few_terms = s.few_terms;
      few = omega (arith, ln, s.few);
      fits = omega (arith, ln, ap length c.push_reserved.ensures.items, length_push bs b, c.requires.room);
      room = omega (arith, ln, c.push_reserved.ensures.capacity, s.room);
      named = simp (c.push_reserved.ensures.items) (each_push (λ (c : Bound). (c.term < s.terms) × (c.base < s.terms)) bs b s.named c.requires.named);
      small = simp (c.push_reserved.ensures.items) (each_push Small bs b s.small c.requires.small);
      head_each = length-set heads c.from-x.result (Some c.len-n.result) ∙ s.head_each;
      heads_are = simp (c.push_reserved.ensures.items, c.from-x.ensures, n_is) hs;
      nexts_are = simp (c.push_reserved.ensures.items, was, c.from-x.ensures, n_is) ns;
    }
