-- What is read of a state, in the words of the rules. Assumes nothing.
use Rattle.std.proofs.Common.{◌≡◌, ℕ, ◌≤◌, true, List, length, Option, Some, None, Bor, Bool, IsTrue, ◌↔◌, refl, sym, ap, ◌∙◌}
use Rattle.std.specs.Prelude.{MatchOption}
use Rattle.std.specs.Option.{is_some, option_copied}
use Rattle.theory.specs.Literals.{complement}
use Rattle.rules.specs.declared.entry.Entry.{Entry}
use Rattle.rules.specs.States.{State, literals}
use Rattle.rules.specs.Rules.{live_in, true_on, false_on}
use Rattle.rules.specs.Moves.{OnTrail, FalseOn, Live, NotLive}
use Rattle.rules.proofs.Lists.{contains, contained}
use Rattle.rules.proofs.Words.{live_from, live_to, none_live}

pub on_trail : (t : List Entry) (l : ℕ) (r : Bool) → r ≡ true_on t l → IsTrue r ↔ OnTrail t l
on_trail t l r e = (λ h. contains (literals t) l (sym e ∙ h), λ h. e ∙ contained (literals t) l h)

pub false_trail : (t : List Entry) (l : ℕ) (r : Bool) → r ≡ false_on t l → IsTrue r ↔ FalseOn t l
false_trail t l r e = (λ h. contains (literals t) (complement l) (sym e ∙ h), λ h. e ∙ contained (literals t) (complement l) h)

module _ (s : State) (few : length s.book ≤ 512) (c : ℕ) where
  pub clause_read : (o : Option (Bor (List ℕ))) → option_copied o ≡ live_in s c → MatchOption o (NotLive s c) (λ R. Live s c R.now)
  clause_read None e = none_live s few c (sym e)
  clause_read (Some R) e = live_from s c R.now (sym e)

  pub live_read : (r : Bool) → r ≡ is_some (live_in s c) → IsTrue r ↔ ((R : List ℕ) × Live s c R)
  live_read r e = (λ h. some (live_in s c) (λ R q. live_from s c R q) (sym e ∙ h), λ h. e ∙ ap is_some (live_to s few c h.0 h.1))
    where
      some : (o : Option (List ℕ)) → ((R : List ℕ) → o ≡ Some R → Live s c R) → is_some o ≡ true → (R : List ℕ) × Live s c R
      some None f h = absurd (cc)
      some (Some R) f h = (R, f R refl)
