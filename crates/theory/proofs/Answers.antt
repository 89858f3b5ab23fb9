-- What the law of a theory says of its answers. Assumes nothing.
use Rattle.std.proofs.Common.{◌≡◌, ℕ, zero, suc, ◌<◌, List, [], ◌∷◌, length, get_or, refl, arith}
use Rattle.std.specs.List.{All}
use Rattle.theory.specs.Literals.{Proper}
use Rattle.theory.specs.Meaning.{Answer, possible, impossible, Meaning, Rising, Lawful, Together, Exact}

pub rising_below : (limit : ℕ) (ps : List ℕ) → Rising limit ps → All (λ p. p < limit) ps
rising_below limit [] r k d h = absurd (omega arith)
rising_below limit (p ∷ []) r zero d h = r
rising_below limit (p ∷ []) r (suc k) d h = absurd (omega arith)
rising_below limit (p ∷ q ∷ ps) r zero d h = let w = rising_below limit (q ∷ ps) r.1 0 d (omega arith) in omega (arith, r.0, w)
rising_below limit (p ∷ q ∷ ps) r (suc k) d h = rising_below limit (q ∷ ps) r.1 k d (omega arith)

pub exact : (M : Meaning) → Lawful M → Exact M
exact M law = record {
  only_then = λ ls p e. (M.written ls, law.possible_fit ls p e, law.possible_holds ls p e);
  whenever = λ ls p t. go ls p t (M.answer ls) refl;
}
  where
    go : (ls : List ℕ) → Proper M.claims ls → Together M ls → (a : Answer) → M.answer ls ≡ a → a ≡ possible
    go ls p t possible e = refl
    go ls p t (impossible core) e =
        let below = rising_below (length ls) core (law.core_rises ls core p e) in
        absurd (law.core_fails ls core p e t.0 t.1 (λ k d h. t.2 (get_or core k d) 0 (below k d h)))
