use Rattle.std.proofs.Common.{◌<◌, map, ℕ, List, length, sym, ap, ◌∙◌, subst}
use Rattle.book.specs.Books.{proposed_of}
use Rattle.std.specs.List.{All}
use Rattle.std.proofs.lemmas.List.Elements.{All-same}
use Rattle.book.specs.Canonical.{TermFits, StepFits}
use Rattle.book.specs.Writing.{WrittenBy, IsShort}
use Rattle.book.proofs.Texts.{book_text}
use Rattle.book.proofs.Logs.{log_means, steps_same}
use Rattle.book.proofs.writing.log_text.Goals as goal

pub returns : goal.returns
returns c =
    let row = c.in_ok-write_row.ensures.written in
    let terms = c.deref.ensures.value in
    let numbers = c.deref-2.ensures.value in
    let count = c.len.ensures ∙ sym c.deref.ensures.len ∙ ap length terms in
    let by = subst (λ (ns : List ℕ). WrittenBy ns row.0) numbers row.1 in
    let whole = book_text _ _ _ _ _ row.0 _ _ _ _ _ _ _ _ _ c.theory.ensures terms count c.new-text.ensures.bytes c.in_ok-write_theory.ensures c.in_ok-write_terms.ensures.written c.in_ok-write_claims.ensures.written row.2 c.in_ok-write_allowance.ensures.written c.in_ok-write_steps.ensures.written in
    record {
      canonical = (row.0, by, whole);
      replays = λ short proposable.
          let known = c.args.book.now.terms.items in
          let told = All-same (λ t. IsShort t → TermFits t) _ _ (sym terms) c.in_ok-write_terms.ensures.fits in
          let fits : All StepFits (map (proposed_of (length known)) c.args.steps.now) = subst (λ (n : ℕ). All StepFits (map (proposed_of n) c.args.steps.now)) count c.in_ok-write_steps.ensures.fits in (
            map (proposed_of (length known)) c.args.steps.now,
            log_means known _ _ row.0 _ _ _ (λ k t lt. told k t lt (short k t lt)) c.in_ok-write_claims.ensures.fits (All-same (λ n. n < 65536) _ _ (sym numbers) c.in_ok-write_row.ensures.fits) c.in_ok-write_allowance.ensures.fits fits by whole,
            steps_same (length known) c.args.steps.now proposable,
          );
    }
