use Rattle.std.proofs.Common.{arith, sym, ap, ◌∙◌, [], ◌∷◌, map, drop}
use Rattle.std.proofs.lemmas.List.{map-append}
use Rattle.book.proofs.Rows.{row_more, row_cut}
use Rattle.book.proofs.writing.clauses.Goals as goal

pub loop-count-preserved : goal.loop-count-preserved
loop-count-preserved c =
    let before = c.loop-count.clauses.items in
    let first = c.in-Some.ensures.cases in
    let cut = c.in-Some-split_at_checked.ensures.cases in (
      row_more (map (λ c. c.now) before) _ _ _ _ _ _ _ c.from.result c.loop-count.invariant.0 first c.from.ensures cut (ap (map (λ c. c.now)) c.in_ok-push.ensures.items ∙ map-append (λ c. c.now) before (c.in-Some-split_at_checked.clause ∷ [])),
      λ cs e. let left = c.loop-count.invariant.1 cs e in let more = (row_cut left.0 c.in-Some.count.now c.in-Some.numbers.now (left.1 ∙ first.0)).1 in (more.0, more.1 ∙ ap (λ n. drop n c.in-Some.numbers.now) (sym c.from.ensures) ∙ sym cut.2),
    )

pub returns-in_default-split_at_checked : goal.returns-in_default-split_at_checked
returns-in_default-split_at_checked c cs e =
    let left = c.loop-count.invariant.1 cs e in
    let cut = row_cut left.0 c.in-Some.count.now c.in-Some.numbers.now (left.1 ∙ c.in-Some.ensures.cases.0) in
    omega (arith, cut.0, c.in_default-split_at_checked.ensures.cases, c.from.ensures)
