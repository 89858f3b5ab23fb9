use Rattle.std.proofs.Common.{◌<◌, length, sym, ◌∙◌, arith}
use Rattle.std.proofs.lemmas.Bool.{eqb-true}
use Rattle.book.specs.Books.{contents_of}
use Rattle.book.proofs.Turns.{bare, turn_wordless}
use Rattle.book.proofs.reading.read_line.Goals as goal
use Rattle.book.proofs.reading.read_line.Goals.{then-is_empty-via-then-is_empty, then-is_empty-via-else-is_empty+then-bytes-eq35}

pub returns-then-is_empty : goal.returns-then-is_empty
returns-then-is_empty c =
    turn_wordless c.args.purpose c.args.line c.args.stage (contents_of c.args.book.now) c.args.bytes.now
    (bare c.args.bytes.now (λ (some : 0 < length c.args.bytes.now). elim c.then-is_empty.branch [
      | then-is_empty-via-then-is_empty w ↦ absurd (omega (arith, some, eqb-true (length c.args.bytes.now) 0 (sym c.is_empty.ensures ∙ w.if-is_empty.true)))
      | then-is_empty-via-else-is_empty+then-bytes-eq35 w ↦ w.if-bytes-eq35.true
    ]))
