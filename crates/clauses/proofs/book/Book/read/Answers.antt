use Rattle.std.proofs.Common.{Err, refl, sym, subst}
use Rattle.std.proofs.lemmas.Bool.{true≢false}
use Rattle.rules.specs.declared.refusal.Refusal.TheVariants.{PastLimit, BadClause}
use Rattle.clauses.specs.Learning.{book_of}
use Rattle.clauses.specs.Rows.{Formed, Barred, Reads, past_limit, bad_clause, clauses_in}
use Rattle.clauses.proofs.Rows.{formed_only}
use Rattle.clauses.proofs.book.Book.read.Goals as goal

pub returns-then-not-is_formed : goal.returns-then-not-is_formed
returns-then-not-is_formed c =
    let row = c.args.row.now in
    let why : Barred c.args.claims row PastLimit =
    past_limit (λ book f. true≢false (sym (c.if-not-is_formed.ensures.1 (subst (Formed row) (sym (formed_only row book f)) f)))) in
    subst (λ r. Reads book_of c.args.claims row (Err r)) (sym c.into.ensures) why

pub returns-then-not-all_proper : goal.returns-then-not-all_proper
returns-then-not-all_proper c =
    let row = c.args.row.now in
    let why : Barred c.args.claims row BadClause =
    bad_clause (clauses_in row) (c.if-not-is_formed.ensures.0 refl) (λ p. true≢false (sym (c.if-not-all_proper.ensures.1 p))) in
    subst (λ r. Reads book_of c.args.claims row (Err r)) (sym c.into-then-not-all_proper.ensures) why
