use Rattle.std.proofs.Common.{arith}
use Rattle.std.proofs.lemmas.Grind.{common_steps}
use Rattle.book.proofs.Texts.{spaced_blanked}
use Rattle.book.proofs.writing.write_numbers.Goals as goal

pub returns : goal.returns
returns c = grind (arith, common_steps, spaced_blanked)
