use Rattle.std.proofs.Common.{◌≡◌, ◌+◌, ◌<◌, true, false, length, slice_get, sym, ap, ◌∙◌, arith, rules}
use Rattle.book.specs.Places.{is_of, places}
use Rattle.book.proofs.Cuts.{lines_le}
use Rattle.book.proofs.Placing.{found, earlier, passed, none_left}
use Rattle.book.proofs.places.line_of.Goals as goal

pub loop-n-init-derived : goal.loop-n-init-derived
loop-n-init-derived c = search (rules, lines_le)

pub returns-then-left-eq0 : goal.returns-then-left-eq0
returns-then-left-eq0 c =
    let s = c.in-Some.ensures.steps in
    let none : c.loop-n.left ≡ 0 = search rules in
    let is : is_of c.args.kind c.in-Some.line.now ≡ true = search rules in
    sym (c.loop-n.invariant.1 ∙ found c.args.kind c.loop-n.n-iterator.count c.next.new.self.count c.in-Some.line.now _ _ s.0 s.2 c.in-Some.n c.loop-n.left s.1 none is)

pub loop-n-preserved-then-is_of : goal.loop-n-preserved-then-is_of
loop-n-preserved-then-is_of c =
    let s = c.in-Some.ensures.steps in
    let some : 0 < c.loop-n.left = search rules in
    let is : is_of c.args.kind c.in-Some.line.now ≡ true = search rules in
    let kept = c.loop-n.invariant.1 ∙ earlier c.args.kind c.loop-n.n-iterator.count c.next.new.self.count c.in-Some.line.now _ _ s.0 s.2 c.loop-n.left some is in
    (search rules, kept, omega (arith, s.2, ap length s.0))

pub loop-n-preserved : goal.loop-n-preserved
loop-n-preserved c =
    let s = c.in-Some.ensures.steps in
    let is : is_of c.args.kind c.in-Some.line.now ≡ false = search rules in
    let kept = c.loop-n.invariant.1 ∙ passed c.args.kind c.loop-n.n-iterator.count c.next.new.self.count c.in-Some.line.now _ _ s.0 s.2 c.loop-n.left is in
    (search rules, kept, omega (arith, s.2, ap length s.0))

pub returns : goal.returns
returns c =
    let left = c.in-None.ensures.steps.0.0 in
    sym (c.loop-n.invariant.1 ∙ ap (λ ls. slice_get (places c.args.kind (c.loop-n.n-iterator.count + 1) ls) c.loop-n.left) left ∙ none_left c.args.kind (c.loop-n.n-iterator.count + 1) c.loop-n.left)
