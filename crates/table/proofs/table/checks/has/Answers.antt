use Rattle.std.proofs.Common.{◌≡◌, ℕ, ◌||◌, eqb, List, [], ◌∷◌, refl, ap, ◌∙◌}
use Rattle.std.specs.List.{list_any}
use Rattle.theory.specs.Literals.{has}
use Rattle.table.proofs.table.checks.has.Goals as goal

any_has : (xs : List ℕ) (l : ℕ) → list_any (λ m. eqb m l) xs ≡ has xs l
any_has [] l = refl
any_has (m ∷ ms) l = ap (λ b. eqb m l || b) (any_has ms l)

pub returns : goal.returns
returns c = c.contains.ensures.value ∙ any_has c.args.clause.now c.args.l
