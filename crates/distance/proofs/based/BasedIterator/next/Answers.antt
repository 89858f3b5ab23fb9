use Rattle.std.proofs.Common.{◌≡◌, ◌<◌, ◌∷◌, List, length, None, vec_items, sym, ap, ◌∙◌, arith, rules}
use Rattle.std.proofs.lemmas.List.{get_or_read}
use Rattle.difference.specs.declared.bound.Bound.{Bound}
use Rattle.difference.specs.Bounds.{at}
use Rattle.distance.specs.Index.{onward}
use Rattle.distance.proofs.Indexing.{latest, latest_below, onward_latest}
use Rattle.distance.proofs.based.BasedIterator.next.Goals as goal
use Rattle.distance.proofs.based.BasedIterator.next.Goals.{After-index}

next_is : (c : After-index) → c.index.result.now ≡ latest (vec_items c.args.self.now.bounds.now.items) c.in_ok-q.q (at (vec_items c.args.self.now.bounds.now.items) c.in_ok-q.q).base
next_is c =
    let bounds = c.args.self.now.bounds.now in
    let here : c.in_ok-q.q < length (vec_items bounds.items) = c.args.self.now.within c.in_ok-q.q c.in_ok-q.was in
    get_or_read (vec_items bounds.nexts) c.in_ok-q.q c.index.result.now (omega (arith, here, bounds.fits)) c.index.ensures None ∙ bounds.nexts_are c.in_ok-q.q here

pub invariant_of-self : goal.invariant_of-self
invariant_of-self c =
    let bs : List Bound = vec_items c.args.self.now.bounds.now.items in
    let here : c.in_ok-q.q < length bs = c.args.self.now.within c.in_ok-q.q c.in_ok-q.was in
    record { within = λ x e. omega (arith, here, latest_below bs c.in_ok-q.q (at bs c.in_ok-q.q).base x (sym (next_is (goal.at.invariant_of-self c).After-index) ∙ e)) }

onward_is : (c : After-index) → onward (vec_items c.args.self.now.bounds.now.items) c.args.self.now.link ≡ c.in_ok-q.q ∷ onward (vec_items c.args.self.now.bounds.now.items) c.index.result.now
onward_is c =
    let bs : List Bound = vec_items c.args.self.now.bounds.now.items in
    ap (onward bs) c.in_ok-q.was ∙ ap (λ qs. c.in_ok-q.q ∷ qs) (sym (ap (onward bs) (next_is c) ∙ onward_latest bs (at bs c.in_ok-q.q).base c.in_ok-q.q))

pub returns-clause-steps : goal.returns-clause-steps
returns-clause-steps c = onward_is (goal.at.returns-clause-steps c).After-index

pub returns-clause-goes : goal.returns-clause-goes
returns-clause-goes c = let e = ap length (onward_is (goal.at.returns-clause-goes c).After-index) in search (rules, e)
