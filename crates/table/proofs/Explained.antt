-- What explains an entry is found by its position. Assumes nothing.
use Rattle.std.proofs.Common.{◌≡◌, ℕ, Bool, true, false, cond, eqb, List, [], ◌∷◌, length, slice_get, Option, Some, None, refl, ap, subst}
use Rattle.std.proofs.lemmas.Bool.{eqb-true}
use Rattle.rules.specs.declared.entry.Reason.{Reason}
use Rattle.rules.specs.declared.entry.Reason.TheVariants.{Decided, Clause, Theory}
use Rattle.rules.specs.declared.entry.Entry.{Entry}
use Rattle.rules.specs.Rules.{explained}
use Rattle.trail.specs.Positions.{entry_at}
use Rattle.table.specs.Tables.{stored, by_reason}
use Rattle.table.specs.Explained.{explained_at}

module _ (clause_at : ℕ → Option (List ℕ)) (blames : List (List ℕ)) where
  by_position : (r : Reason) (l : ℕ) (t : List Entry) (p : ℕ) → p ≡ length t → by_reason clause_at blames r p ≡ explained (stored blames) clause_at r l t
  by_position Decided l t p q = refl
  by_position (Clause c) l t p q = refl
  by_position Theory l t p q = ap (slice_get blames) q

  pub entry_explained : (t : List Entry) (p : ℕ) (e : Entry) → entry_at t p ≡ Some e → by_reason clause_at blames e.reason p ≡ explained_at (stored blames) clause_at t p
  entry_explained [] p e h = absurd (cc)
  entry_explained (d ∷ t) p e h = go (eqb p (length t)) refl h (entry_explained t p e)
    where
      go : (b : Bool) → eqb p (length t) ≡ b → cond b (Some d) (entry_at t p) ≡ Some e → (entry_at t p ≡ Some e → by_reason clause_at blames e.reason p ≡ explained_at (stored blames) clause_at t p)
          → by_reason clause_at blames e.reason p ≡ cond b (explained (stored blames) clause_at d.reason d.literal t) (explained_at (stored blames) clause_at t p)
      go true q h rest =
          let z : d ≡ e = cc in
          subst (λ (x : Entry). by_reason clause_at blames x.reason p ≡ explained (stored blames) clause_at d.reason d.literal t) z (by_position d.reason d.literal t p (eqb-true p (length t) q))
      go false q h rest = rest h

  pub no_entry_explained : (t : List Entry) (p : ℕ) → entry_at t p ≡ None → explained_at (stored blames) clause_at t p ≡ None
  no_entry_explained [] p h = refl
  no_entry_explained (d ∷ t) p h = go (eqb p (length t)) h (no_entry_explained t p)
    where
      go : (b : Bool) → cond b (Some d) (entry_at t p) ≡ None → (entry_at t p ≡ None → explained_at (stored blames) clause_at t p ≡ None)
          → cond b (explained (stored blames) clause_at d.reason d.literal t) (explained_at (stored blames) clause_at t p) ≡ None
      go true h rest = absurd (cc)
      go false h rest = rest h
