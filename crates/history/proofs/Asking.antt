-- What a query tells. Assumes nothing.
use Rattle.std.proofs.Common.{◌≡◌, ℕ, ◌*◌, ◌<◌, ◌≤◌, Bool, true, false, cond, ltb, List, [], ◌∷◌, ◌++◌, length, take, drop, is_none, Option, Some, None, Ok, Err, IfSome, arith, sym, refl, ap, ◌∙◌}
use Rattle.std.proofs.lemmas.Bool.{true≢false, lt-ltb, le-ltb}
use Rattle.std.proofs.Math.Seq.{take-append_seam}
use Rattle.theory.specs.declared.refusal.Found.{Found}
use Rattle.theory.specs.declared.refusal.Refusal.TheVariants.{NoSuchLiteral, ClaimOnList, ShortCorePlace}
use Rattle.theory.specs.Literals.{names, Proper}
use Rattle.theory.proofs.Claims.{proper_push, proper_few}
use Rattle.theory.specs.Meaning.{Meaning, Lawful, Answer, possible, impossible}
use Rattle.theory.specs.Calls.{Told, told, core_over, query_says, query_leaves}
use Rattle.theory.specs.Trials.{trial_query_says, trial_query_leaves}
use Rattle.rules.specs.Rules.{is_possible}
use Rattle.history.specs.Asking.{Asked, found_len}
use Rattle.history.proofs.Blames.{rising_few}

-- with room for a core the answer is told
pub asked : (M : Meaning) (xs old new : List ℕ) (r : Told Found) → M.claims ≤ length old → r ≡ query_says M.claims (M.answer xs) old → new ≡ query_leaves M.claims (M.answer xs) old → Asked M xs new (found_len r)
asked M xs old new r room e f = go (ltb (length old) M.claims) (M.answer xs) r refl (le-ltb (length old) M.claims room) e f
  where
    go : (b : Bool) (a : Answer) (r : Told Found) → M.answer xs ≡ a → b ≡ false → r ≡ cond b (Err ShortCorePlace) (Ok (told a)) → new ≡ cond b old (core_over a old) → Asked M xs new (found_len r)
    go true a r q p e f = absurd (true≢false p)
    go false possible r q p e f = rw e q
    go false (impossible core) r q p e f = rw e (q ∙ ap impossible (sym (ap (take (length core)) f ∙ take-append_seam core (drop (length core) old))))

-- and so it is under a trial
pub asked_with : (M : Meaning) (xs old new : List ℕ) (l : ℕ) (r : Told Found) → M.claims ≤ length old → l < 2 * M.claims → names xs l ≡ false
    → r ≡ trial_query_says M.claims M.answer xs l old → new ≡ trial_query_leaves M.claims M.answer xs l old → Asked M (xs ++ l ∷ []) new (found_len r)
asked_with M xs old new l r room h n e f = go (ltb l (2 * M.claims)) (names xs l) (lt-ltb l (2 * M.claims) h) n e f
  where
    go : (a b : Bool) → a ≡ true → b ≡ false → r ≡ cond a (cond b (Err ClaimOnList) (query_says M.claims (M.answer (xs ++ l ∷ [])) old)) (Err NoSuchLiteral)
        → new ≡ cond a (cond b old (query_leaves M.claims (M.answer (xs ++ l ∷ [])) old)) old → Asked M (xs ++ l ∷ []) new (found_len r)
    go true true p q e f = absurd (true≢false q)
    go true false p q e f = asked M (xs ++ l ∷ []) old new r room e f
    go false b p q e f = absurd (true≢false (sym p))

pub none_found : (M : Meaning) (ls place : List ℕ) (r : Option ℕ) → Asked M ls place r → r ≡ None → M.answer ls ≡ possible
none_found M ls place None a e = a
none_found M ls place (Some len) a e = cc

pub some_found : (M : Meaning) (ls place : List ℕ) (r : Option ℕ) (len : ℕ) → Asked M ls place r → r ≡ Some len → M.answer ls ≡ impossible (take len place)
some_found M ls place None len a e = cc
some_found M ls place (Some k) len a e = let z : k ≡ len = cc in a ∙ ap (λ n. impossible (take n place)) z

pub is_none_found : (M : Meaning) (ls place : List ℕ) (r : Option ℕ) → Asked M ls place r → is_none r ≡ is_possible (M.answer ls)
is_none_found M ls place None a = sym (ap is_possible a)
is_none_found M ls place (Some len) a = sym (ap is_possible a)

pub possible_is : (a : Answer) → is_possible a ≡ true → a ≡ possible
possible_is possible e = refl
possible_is (impossible core) e = cc

-- no core has more positions than there are claims
pub few_found : (M : Meaning) → Lawful M → (xs old : List ℕ) (r : Told Found) → Proper M.claims xs → r ≡ query_says M.claims (M.answer xs) old → IfSome (found_len r) (λ len. len ≤ 128)
few_found M law xs old r p e = go (ltb (length old) M.claims) (M.answer xs) r refl e
  where
    go : (b : Bool) (a : Answer) (r : Told Found) → M.answer xs ≡ a → r ≡ cond b (Err ShortCorePlace) (Ok (told a)) → IfSome (found_len r) (λ len. len ≤ 128)
    go true a r q e = rw e tt
    go false possible r q e = rw e tt
    go false (impossible core) r q e = rw e (omega (arith, rising_few (length xs) core (law.core_rises xs core p q), proper_few M.claims xs p, law.few_claims))

pub few_found_with : (M : Meaning) → Lawful M → (xs old : List ℕ) (l : ℕ) (r : Told Found) → Proper M.claims xs → l < 2 * M.claims → names xs l ≡ false → r ≡ trial_query_says M.claims M.answer xs l old
    → IfSome (found_len r) (λ len. len ≤ 128)
few_found_with M law xs old l r p h n e = go (ltb l (2 * M.claims)) (names xs l) (lt-ltb l (2 * M.claims) h) n e
  where
    go : (a b : Bool) → a ≡ true → b ≡ false → r ≡ cond a (cond b (Err ClaimOnList) (query_says M.claims (M.answer (xs ++ l ∷ [])) old)) (Err NoSuchLiteral) → IfSome (found_len r) (λ len. len ≤ 128)
    go true true q s e = absurd (true≢false s)
    go true false q s e = few_found M law (xs ++ l ∷ []) old r (proper_push M.claims xs l p h n) e
    go false b q s e = absurd (true≢false (sym q))
