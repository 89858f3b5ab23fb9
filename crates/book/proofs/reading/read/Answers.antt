use Rattle.std.proofs.Common.{◌≡◌, ◌+◌, length, max, Err, refl, sym, ap, ◌∙◌, arith, rules}
use Rattle.std.proofs.lemmas.Iterator.Consumers.{YieldsList-from_first, count_from_yields_List}
use Rattle.book.specs.declared.fault.Wrong.TheVariants.{NoTheory}
use Rattle.book.specs.Pieces.{lines}
use Rattle.book.specs.Books.{contents_of, turn, ended, reads}
use Rattle.book.proofs.Cuts.{lines_le}
use Rattle.book.proofs.Turns.{tells_on, reads_nil, line_read, line_fails, ended_whole}
use Rattle.book.proofs.reading.read.Goals as goal

pub loop-i-init : goal.loop-i-init
loop-i-init c = search (rules, lines_le)

pub loop-i-preserved : goal.loop-i-preserved
loop-i-preserved c =
    let s = c.in-Some.ensures.steps in
    (search rules, line_read _ _ _ _ _ _ _ _ _ s.0 s.1 c.loop-i.invariant.1 _ _ _ s.2 c.in_ok-stage.ensures, omega (arith, s.2, ap length s.0))

pub returns-in_err-stage : goal.returns-in_err-stage
returns-in_err-stage c =
    let s = c.in-Some.ensures.steps in
    tells_on _ _ _ c.in_err-stage.field-0.0 (λ t. (t, contents_of c.read_line.new.book)) (turn c.args.purpose (c.in-Some.i + 1) c.loop-i.stage (contents_of c.loop-i.book) c.in-Some.bytes.now) c.from_residual.ensures.1 c.in_err-stage.ensures
    (line_fails _ _ _ _ _ _ _ _ _ s.0 s.1 c.loop-i.invariant.1)

pub count-requires-clause-fits : goal.count-requires-clause-fits
count-requires-clause-fits c = search (rules, lines_le)

pub returns-in-Start : goal.returns-in-Start
returns-in-Start c =
    let left = c.in-None.ensures.steps.0.0 in
    let count : c.count.result ≡ length (lines c.args.text.now) = count_from_yields_List _ c.count.result c.count.ensures.ran (YieldsList-from_first (λ x. x.now) (λ s. lines s.0.now) (lines c.args.text.now) refl) in
    let n : c.loop-i.i-iterator.count ≡ c.count.result = omega (arith, count, c.loop-i.invariant.2, ap length left) in
    let end = reads_nil c.args.purpose c.loop-i.i-iterator.count c.loop-i.stage (contents_of c.loop-i.book) in
    let all = c.loop-i.invariant.1 in
    sym all ∙ ap (reads c.args.purpose c.loop-i.i-iterator.count c.loop-i.stage (contents_of c.loop-i.book)) left ∙ end ∙ ap (λ t. ended c.loop-i.i-iterator.count t (contents_of c.loop-i.book)) c.in-Start.is
    ∙ ap (λ k. Err (record { line = k; wrong = NoTheory })) (ap (λ k. max k 1) n ∙ sym c.max.ensures)

pub returns-in_default : goal.returns-in_default
returns-in_default c =
    let n = c.loop-i.i-iterator.count in
    let s = c.loop-i.stage in
    let b = contents_of c.loop-i.book in
    sym c.loop-i.invariant.1 ∙ ap (reads c.args.purpose n s b) c.in-None.ensures.steps.0.0 ∙ reads_nil c.args.purpose n s b ∙ ended_whole n s b c.in_default.not-Start
