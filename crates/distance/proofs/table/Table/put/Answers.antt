use Rattle.std.proofs.Common.{◌≡◌, ◌*◌, ◌<◌, List, ◌++◌, length, drop, ℤ, vec_items, sym, ap, ◌∙◌, arith}
use Rattle.theory.specs.Calls.{fit_says, fit_over}
use Rattle.difference.specs.Settling.{Outcome}
use Rattle.difference.specs.Distance.{answer_of, row_of}
use Rattle.distance.specs.Rows.{part}
use Rattle.distance.proofs.Parts.{part_copied}
use Rattle.distance.proofs.Holding.{held, all_possible, not_possible, part_long}
use Rattle.distance.proofs.table.Table.put.Goals as goal

pub returns-then-self-len : goal.returns-then-self-len
returns-then-self-len c =
    let s = c.args.self.now in
    let b = s.work.bounds in
    let some : s.good < length (vec_items b.items) = omega (arith, c.if-self-len.true, c.len.ensures) in
    let o = not_possible b.terms (length (vec_items b.nexts)) (vec_items b.items) (vec_items s.rows) s.good (vec_items s.marks) (held s) some in
    record { says = sym (ap (λ (z : Outcome). fit_says (answer_of z)) o); place = sym (ap (λ (z : Outcome). fit_over (answer_of z) (row_of z) c.args.place.now) o) }

pub returns : goal.returns
returns c =
    let s = c.args.self.now in
    let b = s.work.bounds in
    let all : s.good ≡ length (vec_items b.items) = omega (arith, c.if-self-len.false, c.len.ensures, s.reached) in
    let o = all_possible b.terms (length (vec_items b.nexts)) (vec_items b.items) (vec_items s.rows) s.good (vec_items s.marks) (held s) all in
    let row : List ℤ = part b.terms s.good (vec_items s.rows) in
    let copied : c.copy_from_slice.new.self ≡ row =
    c.copy_from_slice.ensures.after ∙ part_copied b.terms (s.good * b.terms) c.deref.result.now ∙ ap (λ z. part b.terms s.good z) c.deref.ensures.value in
    let z : b.terms ≡ length row = sym (part_long b.terms (length (vec_items b.nexts)) (vec_items b.items) (vec_items s.rows) s.good (vec_items s.marks) (held s)) in
    record {
      says = sym (ap (λ (z : Outcome). fit_says (answer_of z)) o);
      place = ap (λ l. l ++ drop b.terms c.args.place.now) copied ∙ ap (λ k. row ++ drop k c.args.place.now) z
          ∙ sym (ap (λ (z : Outcome). fit_over (answer_of z) (row_of z) c.args.place.now) o);
    }
