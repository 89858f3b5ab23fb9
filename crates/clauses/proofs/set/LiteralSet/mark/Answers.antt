use Rattle.std.proofs.Common.{◌<◌, ℕ, false, length, get_or, set, ap, ◌∙◌, arith}
use Rattle.rules.specs.Clauses.{set_of}
use Rattle.clauses.proofs.Sets.{mark_set, mark_past}
use Rattle.clauses.proofs.set.LiteralSet.mark.Goals as goal

pub returns-then-l-lt256 : goal.returns-then-l-lt256
returns-then-l-lt256 c =
    let marks = c.args.self.now.marks in
    let low : c.args.l < length marks = omega arith in
    ap (λ (k : ℕ). set_of (λ m. get_or (set marks k c.args.is_in) m false)) c.from-l.ensures ∙ mark_set marks c.args.l c.args.is_in low

pub returns-else-l-lt256 : goal.returns-else-l-lt256
returns-else-l-lt256 c = mark_past _ c.args.l c.args.is_in (omega arith)
