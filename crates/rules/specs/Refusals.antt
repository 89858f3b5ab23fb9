-- The number of each refusal. Assumes nothing.
use Rattle.std.specs.Prelude.{ℕ}
use Rattle.rules.specs.declared.refusal.Refusal.{Refusal}
use Rattle.rules.specs.declared.refusal.Refusal.TheVariants.{PastLimit, BadClause, VerdictStands, AllowanceUsed, ConflictStands, NoConflict, NoSuchLiteral, ClaimOnTrail, NotLive, LacksLiteral, NotFalse, ConflictEmpty, LatestDecided, NotOneAbove, ConflictNotEmpty, NumberNotFree, BookClause, IsReason, ClaimOffTrail, ClauseNotTrue, TrailImpossible, TrailPossible, NotImplied, ShortFitPlace}

abbrev pub number : Refusal → ℕ
number PastLimit = 1
number BadClause = 4
number VerdictStands = 11
number AllowanceUsed = 12
number ConflictStands = 13
number NoConflict = 13
number NoSuchLiteral = 14
number ClaimOnTrail = 15
number NotLive = 16
number LacksLiteral = 17
number NotFalse = 17
number ConflictEmpty = 18
number LatestDecided = 18
number NotOneAbove = 18
number ConflictNotEmpty = 18
number NumberNotFree = 19
number BookClause = 19
number IsReason = 19
number ClaimOffTrail = 20
number ClauseNotTrue = 20
number TrailImpossible = 21
number TrailPossible = 21
number NotImplied = 21
number ShortFitPlace = 22
