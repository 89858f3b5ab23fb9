-- Where the lines of a kind stand, line by line. Assumes nothing.
use Rattle.std.proofs.Common.{◌≡◌, ℕ, zero, suc, ◌+◌, ◌-◌, ◌<◌, Bool, true, false, if◌then◌else◌, List, [], ◌∷◌, Some, None, slice_get, refl, sym, ap, ◌∙◌, arith}
use Rattle.book.specs.declared.word.Kind.{Kind}
use Rattle.book.specs.Places.{is_of, places}

module _ (k : Kind) (n next : ℕ) (l : List ℕ) (all rest : List (List ℕ)) (cut : all ≡ l ∷ rest) (one_on : next ≡ n + 1) where
  chosen : (b : Bool) → is_of k l ≡ b → places k (n + 1) (l ∷ rest) ≡ (if b then (n + 1) ∷ places k (n + 1 + 1) rest else places k (n + 1 + 1) rest)
  unfolding places
  chosen b is = ap (λ b. if b then (n + 1) ∷ places k (n + 1 + 1) rest else places k (n + 1 + 1) rest) is

  of : (b : Bool) → is_of k l ≡ b → places k (n + 1) all ≡ (if b then (n + 1) ∷ places k (next + 1) rest else places k (next + 1) rest)
  of b is = ap (places k (n + 1)) cut ∙ chosen b is ∙ ap (λ m. if b then (n + 1) ∷ places k (m + 1) rest else places k (m + 1) rest) (sym one_on)

  -- a line of the kind, the one that is looked for
  pub found : (i m : ℕ) → i ≡ n → m ≡ 0 → is_of k l ≡ true → slice_get (places k (n + 1) all) m ≡ Some (i + 1)
  found i m here first is = ap (slice_get (places k (n + 1) all)) first ∙ ap (λ ps. slice_get ps 0) (of true is) ∙ ap (λ j. Some (j + 1)) (sym here)

  -- a line of the kind before that one
  pub earlier : (m : ℕ) → 0 < m → is_of k l ≡ true → slice_get (places k (n + 1) all) m ≡ slice_get (places k (next + 1) rest) (m - 1)
  earlier zero some is = absurd (omega arith)
  earlier (suc m) some is = let less : m ≡ suc m - 1 = omega arith in ap (λ ps. slice_get ps (suc m)) (of true is) ∙ ap (slice_get (places k (next + 1) rest)) less

  -- a line of another kind
  pub passed : (m : ℕ) → is_of k l ≡ false → slice_get (places k (n + 1) all) m ≡ slice_get (places k (next + 1) rest) m
  passed m is = ap (λ ps. slice_get ps m) (of false is)

pub none_left : (k : Kind) (n m : ℕ) → slice_get (places k n []) m ≡ None
unfolding places
none_left k n m = refl
