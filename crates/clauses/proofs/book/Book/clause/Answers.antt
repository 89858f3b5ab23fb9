use Rattle.std.proofs.Common.{◌≤◌, ◌-◌, take, drop, length, slice_get, sym, ap, ◌∙◌, arith, rules}
use Rattle.std.specs.Option.{option_copied}
use Rattle.std.proofs.lemmas.List.{take_rest}
use Rattle.std.proofs.lemmas.Option.{slice_get_past}
use Rattle.clauses.specs.Learning.{book_of}
use Rattle.clauses.specs.Rows.{clauses_in}
use Rattle.clauses.proofs.Rows.{clause_from, first_given, get_drop, starts_long}
use Rattle.clauses.proofs.book.Book.clause.Goals as goal

pub returns-in_err-at : goal.returns-in_err-at
returns-in_err-at c =
    let b = c.args.self.now in
    let long = ap length (c.deref.ensures.value ∙ b.begin) ∙ starts_long 0 (book_of b) in
    ap option_copied c.from_residual.ensures ∙ sym (slice_get_past (book_of b) c.args.c (omega (arith, c.in_err-at.ensures.lookup.3, long)))

pub offset_bounds-deref-at : goal.offset_bounds-deref-at
offset_bounds-deref-at c =
    let b = c.args.self.now in
    let from = clause_from b _ _ _ c.deref.ensures.value c.in_ok-at.ensures.lookup.3 in
    record { fits = omega (arith, from.within, b.row.ok, b.row.small) }

pub slice_bounds-next-count : goal.slice_bounds-next-count
slice_bounds-next-count c =
    let from = clause_from c.args.self.now _ _ _ c.deref.ensures.value c.in_ok-at.ensures.lookup.3 in
    omega (arith, from.within, ap length c.deref-2.ensures.value)

pub slice_bounds-next-start : goal.slice_bounds-next-start
slice_bounds-next-start c =
    let from = clause_from c.args.self.now _ _ _ c.deref.ensures.value c.in_ok-at.ensures.lookup.3 in
    let in_row : c.in_ok-at.field-0.now ≤ length c.deref-2.result.now = omega (arith, from.within, ap length c.deref-2.ensures.value) in
    search rules

pub returns : goal.returns
returns c =
    let b = c.args.self.now in
    let at = c.in_ok-at.field-0.now in
    let from = clause_from b _ _ at c.deref.ensures.value c.in_ok-at.ensures.lookup.3 in
    let row = c.deref-2.result.now in
    first_given (take (length row - at) (drop at row)) c.next.new.self.0.now c.next.result c.next.ensures.steps
    ∙ ap (λ xs. slice_get (clauses_in xs) 0) (take_rest row at ∙ ap (drop at) c.deref-2.ensures.value)
    ∙ ap (λ cs. slice_get cs 0) from.is
    ∙ get_drop (book_of b) c.args.c
