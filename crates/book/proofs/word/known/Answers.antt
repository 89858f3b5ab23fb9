use Rattle.std.proofs.Common.{sym, ap, ◌∙◌}
use Rattle.book.specs.Words.{names, first_spelled}
use Rattle.book.proofs.Written.{no_letter, first_of_length}
use Rattle.book.proofs.word.known.Goals as goal

pub returns-in-len1-up : goal.returns-in-len1-up
returns-in-len1-up c = sym (no_letter c.args.word.now c.in-len1-up.len_at_least c.if-first-le57.true)

pub returns-in_default : goal.returns-in_default
returns-in_default c =
    c.spelled.ensures ∙ ap (λ ns. first_spelled ns c.args.word.now) c.of_length.ensures ∙ first_of_length names c.args.word.now
