-- What is left of a set's literals, on the way through them. Assumes nothing.
use Rattle.std.specs.Prelude.{ℕ, ◌-◌, List}
use Rattle.theory.specs.Literals.{has}
use Rattle.theory.specs.Positions.{listed}
use Rattle.clauses.specs.declared.set.Literals.{Literals}
use Rattle.clauses.specs.Sets.{members}

-- the set's literals from the next one on
abbrev pub literals_left : Literals → List ℕ
literals_left s = listed s.next (256 - s.next) (has (members s.set.now))
