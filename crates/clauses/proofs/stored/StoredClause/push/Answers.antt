use Rattle.std.proofs.Common.{◌∷◌, [], take, sym, ◌∙◌, ◌++◌, arith}
use Rattle.std.proofs.lemmas.List.{take_all, take_at, take_more_set, length_push, length-take-le}
use Rattle.clauses.proofs.stored.StoredClause.push.Goals as goal

pub returns-then-self-lt256 : goal.returns-then-self-lt256
returns-then-self-lt256 c =
    let s = c.args.self.now in
    take_more_set s.literals s.len c.args.l (omega arith)
    ∙ sym (take_all 256 (take s.len s.literals ++ c.args.l ∷ []) (omega (arith, length_push (take s.len s.literals) c.args.l, length-take-le s.len s.literals (omega arith))))

pub returns-else-self-lt256 : goal.returns-else-self-lt256
returns-else-self-lt256 c =
    let s = c.args.self.now in
    sym (take_at (take s.len s.literals) (c.args.l ∷ []) 256 (omega (arith, length-take-le s.len s.literals (omega (arith, s.within)), s.within)))
