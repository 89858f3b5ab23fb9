use Rattle.std.proofs.Common.{◌<◌, ◌≤◌, ℕ, false, get_or, sym, ◌∙◌, ap, arith}
use Rattle.rules.proofs.Clauses.{set_has, set_lacks}
use Rattle.clauses.proofs.set.LiteralSet.has.Goals as goal

pub returns-in-Some : goal.returns-in-Some
returns-in-Some c =
    let low : c.args.l < 256 = omega (arith, c.in-Some.ensures.lookup.3.0) in
    c.in-Some.ensures.lookup.3.1 false ∙ ap (λ (k : ℕ). get_or c.args.self.now.marks k false) c.from.ensures ∙ sym (set_has _ c.args.l low)

pub returns-in-None : goal.returns-in-None
returns-in-None c = let high : 256 ≤ c.args.l = omega (arith, c.in-None.ensures.lookup.3) in sym (set_lacks _ c.args.l high)
