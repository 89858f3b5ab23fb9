-- Sample lists, computed. Assumes nothing.
use Rattle.std.proofs.Common.{refl}
use Rattle.theory.specs.Positions.{listed}
use Rattle.congruence.specs.Merges.{first, last, sweep, settle, log_at, needed}
use Rattle.congruence.specs.Equality.{row}
use Rattle.congruence.specs.Samples.{Samples}

pub samples : Samples
unfolding first last sweep settle log_at needed listed row
samples = record {
  chain = refl;
  chain_written = refl;
  parts_equal = refl;
  parts_clash = refl;
  parts_other = refl;
  twice_written = refl;
  twice_clash = refl;
  itself = refl;
}
