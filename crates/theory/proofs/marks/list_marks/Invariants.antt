use Rattle.std.proofs.Common.{false, length, get_or}
use Rattle.theory.specs.Positions.{marked}
use Rattle.theory.proofs.Positions.{Partly}
use Rattle.theory.proofs.marks.list_marks.Given as goal

abbrev pub invariant-loop-p : goal.invariant-loop-p
invariant-loop-p l = Partly (marked l.marks) l.p (length l.marks) (λ p. get_or l.marks p false) l.initial.place l.place l.n
