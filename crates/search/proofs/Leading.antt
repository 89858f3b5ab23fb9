-- Accepted steps, one after another. Assumes nothing.
use Rattle.std.proofs.Common.{◌≡◌, ℕ, ◌+◌, false, List, [], ◌∷◌, ◌++◌, length, ℤ, Option, Some, None, refl, sym, ap, ◌∙◌, subst, append_assoc, arith}
use Rattle.std.specs.Option.{is_some}
use Rattle.theory.specs.declared.theory.Theory.{Ghosts}
use Rattle.theory.specs.Members.{meaning_at}
use Rattle.history.specs.declared.history.History.{History}
use Rattle.history.specs.Seen.{means, shape, state}
use Rattle.theory.specs.Meaning.{Meaning}
use Rattle.rules.specs.declared.step.Step.{Step}
use Rattle.rules.specs.States.{State, asserted}
use Rattle.rules.specs.Moves.{Moves, decide, propagate, imply, conflict, clash, resolve, jump, forget, fit, no_fit}
use Rattle.rules.proofs.Moving.{move_counted}
use Rattle.search.specs.Recorders.{grown, pushed}
use Rattle.search.specs.Searches.{Leads}
use Rattle.search.specs.Runs.{Ran, filled, filled_by}

-- no step changes the book or the allowance
pub record Kept (s s' : State) : Type 0 where
  pub book : s'.book ≡ s.book
  pub allowance : s'.allowance ≡ s.allowance

pub move_kept : {M : Meaning} {s : State} {x : Step} {s' : State} → Moves M s x s' → Kept s s'
move_kept (decide g f) = record { book = refl; allowance = refl }
move_kept (propagate g f h i j) = record { book = refl; allowance = refl }
move_kept (imply g f p n) = record { book = refl; allowance = refl }
move_kept (conflict g q h f x) = record { book = refl; allowance = refl }
move_kept (clash g q a x) = record { book = refl; allowance = refl }
move_kept (resolve g q v w x) = record { book = refl; allowance = refl }
move_kept (jump g q o i n x) = record { book = refl; allowance = refl }
move_kept (forget g h i n) = record { book = refl; allowance = refl }
move_kept (fit g q a t p z) = record { book = refl; allowance = refl }
move_kept (no_fit g q) = record { book = refl; allowance = refl }

module _ (M : Meaning) where
  pub leads_push : (xs : List Step) (s t u : State) (x : Step) → Leads M s xs t → Moves M t x u → Leads M s (xs ++ x ∷ []) u
  leads_push [] s t u x q m = (u, subst (λ (z : State). Moves M z x u) (sym q) m, refl)
  leads_push (y ∷ ys) s t u x l m = (l.0, l.1, leads_push ys l.0 t u x l.2 m)

  pub leads_counted : (xs : List Step) (s t : State) → Leads M s xs t → t.count ≡ s.count + length xs
  leads_counted [] s t q = let z = ap (λ (w : State). w.count) q in omega (arith, z)
  leads_counted (x ∷ xs) s t l = omega (arith, leads_counted xs l.0 t l.2, move_counted l.1)

  pub leads_kept : (xs : List Step) (s t : State) → Leads M s xs t → Kept s t
  leads_kept [] s t q = record { book = sym (ap (λ (z : State). z.book) q); allowance = sym (ap (λ (z : State). z.allowance) q) }
  leads_kept (x ∷ xs) s t l =
      let a = move_kept l.1 in
      let b = leads_kept xs l.0 t l.2 in
      record { book = b.book ∙ a.book; allowance = b.allowance ∙ a.allowance }

pub grown_push : (seen : Option (List Step)) (xs : List Step) (x : Step) → grown (grown seen xs) (x ∷ []) ≡ grown seen (xs ++ x ∷ [])
grown_push None xs x = refl
grown_push (Some ys) xs x = ap Some (append_assoc ys xs (x ∷ []))

pub none_from : {A : Type 0} (o : Option A) → is_some o ≡ false → o ≡ None
none_from None h = refl
none_from (Some x) h = absurd (cc)

-- one accepted step more
module _ {T : Type 0} {g : Ghosts T} where
  pub ran_more : (h0 h h' : History T g) (x : Step) (before between after : List ℤ) (seen mid seen' : Option (List Step)) → shape h ≡ shape h0
      → Ran (means h0) (state h0) (state h) before between seen mid → (state h).verdict ≡ None → Moves (means h) (state h) x (state h')
      → after ≡ filled (means h) (state h') between → seen' ≡ pushed mid x → Ran (means h0) (state h0) (state h') before after seen seen'
  ran_more h0 h h' x before between after seen mid seen' e r v m p q =
      let same : between ≡ before = r.place ∙ ap (λ o. filled_by o ((means h0).written (asserted (state h).trail)) before) v in
      record {
        steps = r.steps ++ x ∷ [];
        leads = leads_push (means h0) r.steps (state h0) (state h) (state h') x r.leads (subst (λ a. Moves (meaning_at g a) (state h) x (state h')) e m);
        recorded = q ∙ ap (λ o. grown o (x ∷ [])) r.recorded ∙ grown_push seen r.steps x;
        place = subst (λ a. after ≡ filled (meaning_at g a) (state h') before) e (subst (λ b. after ≡ filled (means h) (state h') b) same p);
      }
