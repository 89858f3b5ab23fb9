-- What calls answer and leave where they are not refused. Assumes nothing.
use Rattle.std.proofs.Common.{◌≡◌, ℕ, ◌*◌, ◌<◌, ◌≤◌, Bool, true, false, cond, ltb, List, [], ◌∷◌, ◌++◌, length, take, Ok, Err, sym, refl, ap, ◌∙◌, subst, arith}
use Rattle.std.proofs.lemmas.List.{take_all, length_push}
use Rattle.std.proofs.lemmas.Bool.{cond_both, ltb-true, ltb-false}
use Rattle.theory.specs.declared.refusal.Refusal.{Refusal}
use Rattle.theory.specs.declared.refusal.Refusal.TheVariants.{NoSuchLiteral, ClaimOnList, AboveLength}
use Rattle.theory.specs.declared.asserted.Asserted.{Asserted}
use Rattle.theory.specs.Asserted.{claims_of, literals_of}
use Rattle.theory.specs.Literals.{names, Proper}
use Rattle.theory.proofs.Claims.{proper_few}
use Rattle.theory.specs.Calls.{Told, assert_says, assert_leaves, take_back_says, take_back_leaves}

-- what is accepted stands at the list's end
accepted : (n : ℕ) (ls : List ℕ) (l : ℕ) → Ok tt ≡ assert_says n ls l → assert_leaves n ls l ≡ ls ++ l ∷ []
accepted n ls l e = go (ltb l (2 * n)) (names ls l) e
  where
    go : (a b : Bool) → ◌≡◌ {A = Told (Unit {0})} (Ok tt) (cond a (cond b (Err ClaimOnList) (Ok tt)) (Err NoSuchLiteral)) → cond a (cond b ls (ls ++ l ∷ [])) ls ≡ ls ++ l ∷ []
    go true false e = refl
    go true true e = cc
    go false b e = cc

-- a list that took a literal is longer by that one, and there was room for it
pub record Taken (n : ℕ) (ls more : List ℕ) (l : ℕ) : Type 0 where
  pub longer : more ≡ ls ++ l ∷ []
  pub proper : Proper n more
  pub room : length ls < n

-- the literals are of claims that there are, and no claim comes twice
pub proper_of : (a : Asserted) → Proper (claims_of a) (literals_of a)
proper_of a = a.proper

pub taken : (a b : Asserted) (l : ℕ) → claims_of b ≡ claims_of a → Ok tt ≡ assert_says (claims_of a) (literals_of a) l
    → literals_of b ≡ assert_leaves (claims_of a) (literals_of a) l → Taken (claims_of a) (literals_of a) (literals_of b) l
taken a b l same says e =
    let longer : literals_of b ≡ literals_of a ++ l ∷ [] = e ∙ accepted (claims_of a) (literals_of a) l says in
    record {
      longer = longer;
      proper = subst (λ (n : ℕ). Proper n (literals_of b)) same b.proper;
      room = omega (arith, proper_few (claims_of b) (literals_of b) b.proper, ap length longer, length_push (literals_of a) l, same);
    }

-- what is refused changes nothing
pub declined : (n : ℕ) (ls : List ℕ) (l : ℕ) {x : Refusal} → Err x ≡ assert_says n ls l → assert_leaves n ls l ≡ ls
declined n ls l {x} e = go (ltb l (2 * n)) (names ls l) e
  where
    go : (a b : Bool) → ◌≡◌ {A = Told (Unit {0})} (Err x) (cond a (cond b (Err ClaimOnList) (Ok tt)) (Err NoSuchLiteral)) → cond a (cond b ls (ls ++ l ∷ [])) ls ≡ ls
    go true false e = cc
    go true true e = refl
    go false b e = refl

pub kept : (ls : List ℕ) (k : ℕ) {x : Refusal} → Err x ≡ take_back_says ls k → take_back_leaves ls k ≡ ls
kept ls k {x} e = go (ltb (length ls) k) e
  where
    go : (a : Bool) → ◌≡◌ {A = Told (Unit {0})} (Err x) (cond a (Err AboveLength) (Ok tt)) → cond a ls (take k ls) ≡ ls
    go true e = refl
    go false e = cc

pub within : (ls : List ℕ) (k : ℕ) → Ok tt ≡ take_back_says ls k → k ≤ length ls
within ls k e = go (ltb (length ls) k) refl e
  where
    go : (a : Bool) → ltb (length ls) k ≡ a → ◌≡◌ {A = Told (Unit {0})} (Ok tt) (cond a (Err AboveLength) (Ok tt)) → k ≤ length ls
    go true q e = cc
    go false q e = ltb-false (length ls) k q

-- to take back is to cut, also where nothing is cut
pub take_back_take : (ls : List ℕ) (k : ℕ) → take_back_leaves ls k ≡ take k ls
take_back_take ls k =
    cond_both (ltb (length ls) k) ls (take k ls) (λ x. x ≡ take k ls)
    (λ e. let h : length ls < k = ltb-true (length ls) k e in sym (take_all k ls (omega arith)))
    (λ e. refl)
