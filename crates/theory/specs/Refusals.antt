-- The number of each refusal. Assumes nothing.
use Rattle.std.specs.Prelude.{ℕ}
use Rattle.theory.specs.declared.refusal.Refusal.{Refusal}
use Rattle.theory.specs.declared.refusal.Refusal.TheVariants.{PastLimit, ArgumentNotLower, TermHasArgument, NoSuchTerm, ConstantOutOfRange, NoSuchLiteral, ClaimOnList, AboveLength, ShortCorePlace, ShortFitPlace, ListImpossible}

abbrev pub number : Refusal → ℕ
number PastLimit = 1
number ArgumentNotLower = 2
number TermHasArgument = 2
number NoSuchTerm = 3
number ConstantOutOfRange = 3
number NoSuchLiteral = 5
number ClaimOnList = 6
number AboveLength = 7
number ShortCorePlace = 8
number ShortFitPlace = 9
number ListImpossible = 10
