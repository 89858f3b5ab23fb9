use Rattle.std.proofs.Common.{◌≡◌, ℕ, ◌+◌, ◌-◌, ◌*◌, ◌<◌, ◌≤◌, Bool, false, List, [], ◌∷◌, ◌++◌, length, get_or, take, ℤ, vec_items, sym, ap, ◌∙◌, subst, arith, add-mul}
use borrow.Rule.Slice.PartMut.{put_mid}
use Rattle.std.specs.Vec.{with_items}
use Rattle.std.proofs.lemmas.List.{with_items_is}
use Rattle.theory.specs.Literals.{has}
use Rattle.theory.specs.Positions.{marked}
use Rattle.difference.specs.declared.bound.Bound.{Bound}
use Rattle.difference.specs.Settling.{around, fits, clash, outcome}
use Rattle.distance.specs.Rows.{part}
use Rattle.distance.proofs.Parts.{part_written, part_long, front_kept}
use Rattle.distance.proofs.Marking.{core_marked}
use Rattle.distance.proofs.Holding.{Held, held, held_as, held_fits, held_clash, next_in}
use Rattle.distance.proofs.table.Table.add.Goals as goal
use Rattle.distance.proofs.table.Table.add.Goals.{After-push, After-settle}

-- what was held, of the bounds as they are
was_held : (c : After-push) → Held c.push.new.self.terms (length (vec_items c.push.new.self.nexts)) (vec_items c.args.self.now.work.bounds.items) (vec_items c.args.self.now.rows) c.args.self.now.good (vec_items c.args.self.now.marks)
was_held c =
    let s = c.args.self.now in
    subst (λ z. Held c.push.new.self.terms z (vec_items s.work.bounds.items) (vec_items s.rows) s.good (vec_items s.marks)) (sym c.push.ensures.most)
    (subst (λ z. Held z (length (vec_items s.work.bounds.nexts)) (vec_items s.work.bounds.items) (vec_items s.rows) s.good (vec_items s.marks)) (sym c.push.ensures.terms) (held s))

free : (c : After-push) → length (vec_items c.args.self.now.work.bounds.items) < length (vec_items c.push.new.self.nexts)
free c = omega (arith, c.requires.room, c.args.self.now.mark_each, c.push.ensures.most)

all : (c : After-settle) → c.args.self.now.good ≡ length (vec_items c.args.self.now.work.bounds.items)
all c = c.if-not-possible.false ∙ c.len.ensures

terms_are : (c : After-settle) → c.settle.new.self.bounds.terms ≡ c.push.new.self.terms
terms_are c = ap (λ b. b.terms) c.settle.ensures.bounds

most_is : (c : After-settle) → length (vec_items c.settle.new.self.bounds.nexts) ≡ length (vec_items c.push.new.self.nexts)
most_is c = ap (λ b. length (vec_items b.nexts)) c.settle.ensures.bounds

bounds_are : (c : After-settle) → vec_items c.settle.new.self.bounds.items ≡ vec_items c.args.self.now.work.bounds.items ++ c.args.b ∷ []
bounds_are c = ap (λ b. vec_items b.items) c.settle.ensures.bounds ∙ c.push.ensures.items

pub invariant_of-self-in-None-2 : goal.invariant_of-self-in-None-2
invariant_of-self-in-None-2 c =
    let s = c.args.self.now in
    let d : After-settle = (goal.at.invariant_of-self-in-None-2 c).After-settle in
    let e : After-push = (goal.at.invariant_of-self-in-None-2 c).After-push in
    let bs : List Bound = vec_items s.work.bounds.items in
    let rows : List ℤ = vec_items s.rows in
    let most : ℕ = length (vec_items c.push.new.self.nexts) in
    let m : ℕ = c.push.new.self.terms in
    let row : List ℤ = c.copy_from_slice.new.self in
    let lent : List ℤ = c.deref_mut.result.now in
    let start : ℕ = s.good * c.push.new.self.terms + c.push.new.self.terms in
    let new : List ℤ = put_mid start ((start + m) - start) lent row in
    let copied : row ≡ vec_items c.settle.new.self.row = c.copy_from_slice.ensures.after ∙ c.deref-in-None.ensures.value in
    let wide : length row ≡ m = ap length copied ∙ c.settle.new.self.long ∙ terms_are d in
    let n : (s.good + 1) * m ≡ start = omega (arith, add-mul s.good 1 m) in
    let fill : start + m ≤ length lent = omega (arith, next_in m most bs rows s.good (vec_items s.marks) c.args.b (was_held e) (free e) (all d), ap length c.deref_mut.ensures.value) in
    let long : length new ≡ length rows = omega (arith, part_long start m lent row fill wide, ap length c.deref_mut.ensures.value) in
    let same : (with_items s.rows new).items ≡ new = with_items_is s.rows new (long ∙ sym s.rows.ok.0) in
    let o : outcome m (bs ++ c.args.b ∷ []) ≡ fits (part m (s.good + 1) new) =
    ap (outcome m) (sym c.push.ensures.items) ∙ c.in-None.ensures.settles ∙ ap fits (sym (part_written m (s.good + 1) start lent row n fill wide ∙ copied)) in
    let h = held_fits m most bs rows s.good (vec_items s.marks) c.args.b (was_held e) (free e) (all d) new
    (front_kept m (s.good + 1) start lent row n fill ∙ ap (take ((s.good + 1) * m)) c.deref_mut.ensures.value) long o in
    let t = held_as c.settle.new.self.bounds (with_items s.rows new).items (s.good + 1) (vec_items s.marks) (terms_are d) (most_is d) (bounds_are d)
    (subst (λ z. Held m most (bs ++ c.args.b ∷ []) z (s.good + 1) (vec_items s.marks)) (sym same) h) in
    record { reached = t.reached; possible = t.possible; broken = t.broken; row_each = t.row_each; mark_each = t.mark_each }

pub invariant_of-self-in-Some : goal.invariant_of-self-in-Some
invariant_of-self-in-Some c =
    let s = c.args.self.now in
    let d : After-settle = (goal.at.invariant_of-self-in-Some c).After-settle in
    let e : After-push = (goal.at.invariant_of-self-in-Some c).After-push in
    let bs : List Bound = vec_items s.work.bounds.items in
    let bs' : List Bound = vec_items c.push.new.self.items in
    let most : ℕ = length (vec_items c.push.new.self.nexts) in
    let m : ℕ = c.push.new.self.terms in
    let marks : List Bool = c.mark_cycle.new.marks in
    let long : length marks ≡ length (vec_items s.marks) = c.mark_cycle.auto.marks ∙ ap length c.deref_mut-in-Some.ensures.value in
    let same : (with_items s.marks marks).items ≡ marks = with_items_is s.marks marks (long ∙ sym s.marks.ok.0) in
    let marks_are : (q : ℕ) → get_or marks q false ≡ has (around bs' (vec_items c.settle.new.self.steps) c.in-Some.p) q = λ q. c.mark_cycle.ensures q ∙ ap (λ b. has (around (vec_items b.items) (vec_items c.settle.new.self.steps) c.in-Some.p) q) c.settle.ensures.bounds in
    let room : length bs' ≤ length marks = omega (arith, long, s.mark_each, c.push.ensures.most, c.push.new.self.fits) in
    let o : outcome m (bs ++ c.args.b ∷ []) ≡ clash (marked marks) =
    ap (outcome m) (sym c.push.ensures.items) ∙ c.in-Some.ensures.settles ∙ ap clash (core_marked bs' (vec_items c.settle.new.self.steps) c.in-Some.p marks c.in-Some.ensures.within c.in-Some.ensures.positions room marks_are) in
    let h = held_clash m most bs (vec_items s.rows) s.good (vec_items s.marks) c.args.b (was_held e) (free e) (all d) marks long o in
    let t = held_as c.settle.new.self.bounds (vec_items s.rows) s.good (with_items s.marks marks).items (terms_are d) (most_is d) (bounds_are d)
    (subst (λ z. Held m most (bs ++ c.args.b ∷ []) (vec_items s.rows) s.good z) (sym same) h) in
    record { reached = t.reached; possible = t.possible; broken = t.broken; row_each = t.row_each; mark_each = t.mark_each }
