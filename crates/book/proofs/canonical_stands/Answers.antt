use Rattle.book.proofs.Canonical.{reads_back}
use Rattle.book.proofs.canonical_stands.Goals as goal

pub returns : goal.returns
returns c = reads_back
