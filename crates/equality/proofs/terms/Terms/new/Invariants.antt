use Rattle.std.proofs.Common.{◌≡◌, ℕ, ◌<◌, None, length, get_or}
use Rattle.equality.specs.Index.{nearest}
use Rattle.equality.proofs.terms.Terms.new.Given as goal

abbrev pub invariant-loop-t : goal.invariant-loop-t
invariant-loop-t l = record {
  long : length l.near ≡ 256;
  indexed : (k : ℕ) → k < l.t → get_or l.near k None ≡ nearest l.records k;
}
