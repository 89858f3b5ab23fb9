use Rattle.std.proofs.Common.{◌≡◌, ◌+◌, [], length, get_or}
use Rattle.equality.specs.Logs.{Renamed}
use Rattle.equality.proofs.closure.rename.Given as goal

abbrev pub invariant-loop-t : goal.invariant-loop-t
invariant-loop-t l = record {
  renamed : Renamed l.fn.rows l.rows l.k l.t l.high l.low;
  wide : length (get_or l.rows (l.k + 1) []) ≡ 256;
}
