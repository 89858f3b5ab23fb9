use Rattle.std.proofs.Common.{◌≡◌, ◌<◌, ◌++◌, List, length, set, ℤ, ◌-ℤ◌, pos, vec_items, sym, ap, ◌∙◌, subst, arith, w64, to_z, of_z}
use Rattle.std.proofs.lemmas.Int.{ints}
use Rattle.std.proofs.lemmas.List.{get_or_read}
use Rattle.theory.specs.Meaning.{num}
use Rattle.difference.specs.declared.bound.Bound.{Bound}
use Rattle.difference.specs.Bounds.{no_bound, at}
use Rattle.difference.specs.Settling.{limit}
use Rattle.difference.specs.Depth.{Small, Inside}
use Rattle.difference.proofs.Depth.{inside_on}
use Rattle.distance.specs.Queue.{broken_on}
use Rattle.distance.proofs.settle.Work.lower.Goals as goal
use Rattle.distance.proofs.settle.Work.lower.Goals.{After-index_mut, After-deref}

module _ (c : After-index_mut) where
  abbrev row : List ℤ
  row = vec_items c.args.self.now.row

  abbrev bound : Bound
  bound = at (vec_items c.args.self.now.bounds.items) c.args.p

  named : (bound.term < length row) × (bound.base < length row)
  named = let n : _ = c.args.self.now.bounds.named c.args.p c.requires.within in (omega (arith, n.0, c.args.self.now.long), omega (arith, n.1, c.args.self.now.long))

  small : Small bound
  small = c.args.self.now.bounds.small c.args.p c.requires.within

  term_is : c.index.result.now.term ≡ bound.term
  term_is = ap (λ (b : Bound). b.term) (get_or_read (vec_items c.args.self.now.bounds.items) c.args.p c.index.result.now c.requires.within c.index.ensures no_bound)

  number_is : c.index_mut.result.now ≡ num row bound.term
  number_is =
      let x : c.from.result ≡ bound.term = c.from.ensures ∙ term_is in
      get_or_read row c.from.result c.index_mut.result.now (omega (arith, x, named.0)) c.index_mut.ensures.value (pos 0) ∙ ap (num row) x

  -- what is left is what the bound allows
  left_is : to_z w64 (of_z w64 (to_z w64 (of_z w64 c.index_mut.result.now) -ℤ to_z w64 (of_z w64 c.args.far))) ≡ limit row bound
  left_is =
      let i : _ = c.requires.inside bound.term named.0 in
      let j : _ = c.requires.inside bound.base named.1 in
      omega (arith, ints, number_is, c.requires.far_is, i.0, i.1, j.0, j.1, small.0, small.1)

  row_is : set row c.from.result (to_z w64 (of_z w64 (to_z w64 (of_z w64 c.index_mut.result.now) -ℤ to_z w64 (of_z w64 c.args.far)))) ≡ set row bound.term (limit row bound)
  row_is =
      ap (λ x. set row x (to_z w64 (of_z w64 (to_z w64 (of_z w64 c.index_mut.result.now) -ℤ to_z w64 (of_z w64 c.args.far))))) (c.from.ensures ∙ term_is)
      ∙ ap (set row bound.term) left_is

  -- and no lower than numbers may be
  lowered : Inside 40000 (set row bound.term (limit row bound))
  lowered = inside_on 39999 row bound c.requires.inside named.1 small named.0 (omega (arith, ints, c.requires.far_is, c.requires.broken))

module _ (c : After-deref) where
  abbrev d : After-index_mut
  d = (goal.at.After-deref c).After-index_mut

  new_row : c.deref.result.now ≡ set (row d) (bound d).term (limit (row d) (bound d))
  new_row = c.deref.ensures.value ∙ row_is d

  broken_is : broken_on c.deref.result.now (vec_items c.args.self.now.bounds.items) c.index.result.now.term ≡ broken_on (set (row d) (bound d).term (limit (row d) (bound d))) (vec_items c.args.self.now.bounds.items) (bound d).term
  broken_is =
      ap (λ r. broken_on r (vec_items c.args.self.now.bounds.items) c.index.result.now.term) new_row
      ∙ ap (broken_on (set (row d) (bound d).term (limit (row d) (bound d))) (vec_items c.args.self.now.bounds.items)) (term_is d)

pub enqueue-requires-clause-inside : goal.enqueue-requires-clause-inside
enqueue-requires-clause-inside c =
    let e = (goal.at.enqueue-requires-clause-inside c).After-deref in
    subst (Inside 40000) (sym (new_row e)) (lowered (d e))

pub enqueue-requires-clause-room : goal.enqueue-requires-clause-room
enqueue-requires-clause-room c =
    let s = c.args.self.now in
    omega (arith, ap length (broken_is (goal.at.enqueue-requires-clause-room c).After-deref), c.requires.queue_room, s.bounds.fits, s.queue_room)

pub invariant_of-self-clause-inside : goal.invariant_of-self-clause-inside
invariant_of-self-clause-inside c =
    let d = (goal.at.invariant_of-self-clause-inside c).After-index_mut in
    subst (Inside 40000) (sym (row_is d)) (lowered d)

pub returns-clause-row : goal.returns-clause-row
returns-clause-row c = row_is (goal.at.returns-clause-row c).After-index_mut

pub returns-clause-queue : goal.returns-clause-queue
returns-clause-queue c = c.enqueue.ensures.items ∙ ap (λ l. vec_items c.args.self.now.queue ++ l) (broken_is (goal.at.returns-clause-queue c).After-deref)
