use Rattle.std.proofs.Common.{◌≡◌, ℕ, ◌<◌, false, length, get_or}
use Rattle.equality.specs.Asked.{covers}
use Rattle.equality.proofs.query.cite_all.Given as goal

abbrev pub invariant-loop-s : goal.invariant-loop-s
invariant-loop-s l = (p : ℕ) → p < length l.initial.cited → get_or l.cited p false ≡ covers l.steps l.marks (length l.yielded) p
