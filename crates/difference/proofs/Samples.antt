-- Sample lists, computed. Assumes nothing.
use Rattle.std.proofs.Common.{refl}
use Rattle.theory.specs.Positions.{listed}
use Rattle.difference.specs.Settling.{worst_from, back, turn, settle, outcome_from}
use Rattle.difference.specs.Samples.{Samples}

pub samples : Samples
unfolding worst_from back turn settle outcome_from listed
samples = record {
  tight_clash = refl;
  loose_fit = refl;
  loose_written = refl;
  denial = refl;
  nothing_written = refl;
  round_written = refl;
  round_clash = refl;
  round_stays = refl;
  itself = refl;
  itself_denied = refl;
}
