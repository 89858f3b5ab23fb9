use Rattle.std.proofs.Common.{◌≡◌, [], ◌∷◌, ◌++◌, map, drop, arith, refl, string_bytes}
use Rattle.std.proofs.lemmas.Result.{on_ok_weaker}
use Rattle.std.proofs.lemmas.Grind.{common_steps}
use Rattle.rules.specs.Clauses.{row_of}
use Rattle.book.specs.Canonical.{RowText, by_clauses, by_rows, text_of, clause_line, row_lines}
use Rattle.book.specs.Writing.{WrittenBy}
use Rattle.book.proofs.writing.write_row.Goals as goal

pub returns-after-loop-clause-clause-written : goal.returns-after-loop-clause-clause-written
returns-after-loop-clause-clause-written c =
    let items = c.in-Some.clauses.items in
    let is : row_of (map (λ c. c.now) items) ≡ c.args.row.now = rw c.in-Some.is at c.in_ok-clauses.ensures in
    let kept : string_bytes c.loop-clause.out ++ text_of (map clause_line (map (λ c. c.now) (drop c.loop-clause.clause-index c.deref-clause-items.result.now))) ≡ string_bytes c.args.out.now ++ text_of (map clause_line (map (λ c. c.now) c.deref-clause-items.result.now)) = c.loop-clause.invariant in
    (by_clauses (map (λ c. c.now) items), is, grind (arith, common_steps))

pub returns-in-None-clause-written : goal.returns-in-None-clause-written
returns-in-None-clause-written c =
    let none = rw c.in-None.is at c.in_ok-clauses.ensures in
    let given = c.args.out.now in
    let written = c.write_numbers-in-None.new.out in
    on_ok_weaker {Q = (r : RowText) × WrittenBy c.args.row.now r × (string_bytes written ≡ string_bytes given ++ text_of (row_lines r))} _ (λ e. (by_rows (c.args.row.now ∷ []), (refl, none), e)) c.write_numbers-in-None.ensures
