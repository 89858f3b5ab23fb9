use Rattle.std.proofs.Common.{◌≡◌, true, false, rules, tests}
use Rattle.std.proofs.lemmas.Iterator.{first_from_Range}
use Rattle.table.specs.Tables.{state_of}
use Rattle.table.specs.Next.{untrue}
use Rattle.table.proofs.table.Table.first_untrue.Goals as goal

pub returns : goal.returns
returns c =
    let s = state_of c.args.self.now in
    first_from_Range _ _ _ _ (λ k. untrue s k ≡ true) (λ k. untrue s k ≡ false) c.find.ensures.ran (λ x q k. search (rules, tests)) (λ x q k. search (rules, tests))
