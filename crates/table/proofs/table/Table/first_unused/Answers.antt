use Rattle.std.proofs.Common.{◌≡◌, true, false, not, rules, tests}
use Rattle.std.proofs.lemmas.Iterator.{first_from_Range}
use Rattle.rules.specs.Rules.{is_reason}
use Rattle.table.specs.Tables.{state_of}
use Rattle.table.proofs.table.Table.first_unused.Goals as goal

pub returns : goal.returns
returns c =
    let t = (state_of c.args.self.now).trail in
    first_from_Range _ _ _ _ (λ k. not (is_reason k t) ≡ true) (λ k. not (is_reason k t) ≡ false) c.find.ensures.ran (λ x q k. search (rules, tests)) (λ x q k. search (rules, tests))
