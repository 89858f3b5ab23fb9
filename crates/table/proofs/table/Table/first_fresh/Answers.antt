use Rattle.std.proofs.Common.{◌≡◌, true, false, is_ok, rules, tests}
use Rattle.std.proofs.lemmas.Iterator.{first_from_Range}
use Rattle.trail.specs.Trails.{push_says}
use Rattle.table.specs.Tables.{state_of, claims_of}
use Rattle.table.proofs.table.Table.first_fresh.Goals as goal

pub returns : goal.returns
returns c =
    let n = claims_of c.args.self.now in
    let t = (state_of c.args.self.now).trail in
    first_from_Range _ _ _ _ (λ k. is_ok (push_says n t k) ≡ true) (λ k. is_ok (push_says n t k) ≡ false) c.find.ensures.ran (λ x q k. search (rules, tests)) (λ x q k. search (rules, tests))
