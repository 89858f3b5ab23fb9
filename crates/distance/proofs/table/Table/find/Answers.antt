use Rattle.std.proofs.Common.{◌≡◌, ◌<◌, ◌≤◌, ◌+◌, Bool, List, ℕ, length, take, Ok, vec_items, sym, ap, ◌∙◌, arith}
use Rattle.std.proofs.lemmas.Bool.Decides.{nat_tests}
use Rattle.std.proofs.lemmas.List.{length-take-le}
use Rattle.theory.specs.declared.refusal.Found.TheVariants.{Impossible}
use Rattle.theory.specs.Calls.{told, core_over, over}
use Rattle.theory.specs.Positions.{marked, marks_say, marks_leave}
use Rattle.difference.specs.Settling.{Outcome}
use Rattle.difference.specs.Distance.{answer_of}
use Rattle.distance.proofs.Marking.{marked_front}
use Rattle.distance.proofs.Holding.{held, all_possible, not_possible, core_front}
use Rattle.distance.proofs.table.Table.find.Goals as goal

pub returns-then-self-len : goal.returns-then-self-len
returns-then-self-len c =
    let s = c.args.self.now in
    let b = s.work.bounds in
    let o = all_possible b.terms (length (vec_items b.nexts)) (vec_items b.items) (vec_items s.rows) s.good (vec_items s.marks) (held s) (c.if-self-len.true ∙ c.len.ensures) in
    record { says = sym (ap (λ (z : Outcome). Ok (told (answer_of z))) o); place = sym (ap (λ (z : Outcome). core_over (answer_of z) c.args.place.now) o) }

-- the marks fit into the place
put_down : (marks : List Bool) (place : List ℕ) → length marks ≤ 128 → length marks ≤ length place → (marks_say marks place ≡ Ok (length (marked marks))) × (marks_leave marks place ≡ over (marked marks) place)
put_down marks place a b = (grind (arith, nat_tests), grind (arith, nat_tests))

pub returns : goal.returns
returns c =
    let s = c.args.self.now in
    let b = s.work.bounds in
    let bs = vec_items b.items in
    let marks : List Bool = vec_items s.marks in
    let h = held s in
    let some : s.good < length bs = omega (arith, c.if-self-len.false, c.len.ensures, s.reached) in
    let few : s.good + 1 ≤ length marks = omega (arith, some, h.fits_in, s.mark_each) in
    let front : List Bool = take (s.good + 1) marks in
    let o = not_possible b.terms (length (vec_items b.nexts)) bs (vec_items s.rows) s.good marks h some in
    let e : marked front ≡ marked marks = marked_front (s.good + 1) marks few (core_front b.terms (length (vec_items b.nexts)) bs (vec_items s.rows) s.good marks h b.named some) in
    let long : length front ≡ s.good + 1 = length-take-le (s.good + 1) marks few in
    let d = put_down front c.args.place.now (omega (arith, long, few, s.mark_each, b.few)) (omega (arith, long, few, c.requires)) in
    let n : Ok c.in_ok-n.n ≡ Ok (length (marked front)) =
    sym c.in_ok-n.was ∙ c.list_marks.ensures.says ∙ ap (λ z. marks_say (take (s.good + 1) z) c.args.place.now) c.deref.ensures.value ∙ d.0 in
    let n_is : c.in_ok-n.n ≡ length (marked marks) = let z : c.in_ok-n.n ≡ length (marked front) = cc in z ∙ ap length e in
    record {
      says = ap (λ k. Ok (Impossible k)) n_is ∙ sym (ap (λ (z : Outcome). Ok (told (answer_of z))) o);
      place = c.list_marks.ensures.place ∙ ap (λ z. marks_leave (take (s.good + 1) z) c.args.place.now) c.deref.ensures.value ∙ d.1 ∙ ap (λ z. over z c.args.place.now) e ∙ sym (ap (λ (z : Outcome). core_over (answer_of z) c.args.place.now) o);
    }
