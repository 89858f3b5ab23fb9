use Rattle.std.proofs.Common.{◌≡◌, ◌++◌, map, drop, decimal, string_bytes}
use Rattle.book.specs.declared.word.Name.TheVariants.{Kind as kind}
use Rattle.book.specs.Words.{spelling}
use Rattle.book.proofs.Texts.{blanked}
use Rattle.book.proofs.writing.write_numbers.Given as goal

abbrev pub invariant-loop-n : goal.invariant-loop-n
invariant-loop-n l = string_bytes l.out ++ blanked (map decimal (drop l.n-index l.numbers)) ≡ string_bytes l.fn.out ++ (spelling (kind l.fn.first) ++ blanked (map decimal l.numbers))
