use Rattle.std.proofs.Common.{rules, ◌≡◌, ◌∙◌, ℕ, true, eqb, Any, sym}
use Rattle.std.specs.Bool.{Decides, one_answer}
use Rattle.std.specs.List.{list_any}
use Rattle.std.proofs.lemmas.List.Folds.{Any-from_list_any, list_any-from_Any}
use Rattle.theory.specs.Literals.{claim}
use Rattle.theory.proofs.Claims.{names_any}
use Rattle.theory.proofs.literal.names.Goals as goal

pub returns : goal.returns
returns c =
    let p = λ (m : ℕ). eqb (claim m) (claim c.args.l) in
    let xs = c.args.list.now in
    let found : Decides c.any.result (Any (λ m. p m ≡ true) xs) = search rules in
    one_answer c.any.result (list_any p xs) found (Any-from_list_any p xs, list_any-from_Any p xs) ∙ sym (names_any xs c.args.l)
