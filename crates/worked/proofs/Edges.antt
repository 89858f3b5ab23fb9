-- The edges of the limits: what is within them by computing, and what is past them by the one limit that it breaks.
-- Assumes nothing.
use Rattle.std.proofs.Common.{◌≡◌, ℕ, ◌<◌, ◌≤◌, true, List, [], ◌∷◌, length, replicate, ℤ, pos, neg_ℤ, ◌≤ℤ◌, ltb, refl, sym, ◌∙◌, subst, lit<, lit≤, arith}
use Rattle.std.specs.List.{All, list_all}
use Rattle.std.proofs.lemmas.Bool.{ltb-true}
use Rattle.std.proofs.lemmas.Int.{ints}
use Rattle.std.proofs.lemmas.List.Elements.{All-nil, All-cons, All-replicate, All-weaker}
use Rattle.std.proofs.lemmas.List.Sums.{AllPass-from_list_all}
use Rattle.theory.specs.declared.term.Term.{Term}
use Rattle.theory.specs.declared.refusal.Refusal.{Refusal}
use Rattle.theory.specs.declared.refusal.Refusal.TheVariants.{PastLimit, ConstantOutOfRange}
use Rattle.theory.specs.Literals.{Proper}
use Rattle.theory.specs.Terms.{Arities, Limits}
use Rattle.theory.specs.Refusals as theory
use Rattle.theory.specs.Positions.{listed}
use Rattle.congruence.specs.declared.claim.Claim.{Claim}
use Rattle.congruence.specs.Table.{Lower}
use Rattle.congruence.specs.Samples.{constant, same}
use Rattle.equality.specs.Checks as equality
use Rattle.difference.specs.declared.bound.Bound.{Bound}
use Rattle.difference.specs.Bounds.{no_bound, Named}
use Rattle.difference.specs.Depth.{InRange}
use Rattle.difference.specs.Samples.{apart}
use Rattle.distance.specs.Checks as distance
use Rattle.rules.specs.declared.refusal.Refusal.{Refusal as Reason}
use Rattle.rules.specs.declared.refusal.Refusal.TheVariants as rules
use Rattle.rules.specs.Clauses.{size, row_of}
use Rattle.clauses.specs.Rows.{first_clauses, clauses_in, Formed, Barred, past_limit, bad_clause}
use Rattle.clauses.proofs.Rows.{formed_only, proper_none}
use Rattle.worked.specs.Edges.{RefusedBy, Opens, Closed, two_terms, every_claim, Edges}

two : {A : Type 0} (P : A → Type 0) (x y : A) → P x → P y → All P (x ∷ y ∷ [])
two P x y p q = All-cons P x (y ∷ []) p (All-cons P y [] q (All-nil P))

-- ---- claims

bare : Arities 0 two_terms
bare k h = two (λ t. t.arity ≤ 0) (constant 0) (constant 1) (lit≤ tt) (lit≤ tt) k (record { symbol = 0; arity = 0; args = [] }) h

limits : (n : ℕ) → n ≤ 128 → Limits 2 two_terms n
limits n h = record { few_terms = lit≤ tt; few_claims = h; arities = λ k l. omega (arith, bare k l) }

lower : Lower two_terms
lower k h i l = absurd (omega (arith, bare k h))

-- more than 128 claims are past a limit, whatever they are
many_equal : (ts : List Term) (claims : List Claim) → 128 < length claims → RefusedBy theory.number (equality.Barred ts claims) 1
many_equal ts claims h = record { cause = PastLimit; barred = equality.past_limit over; only = alone; numbered = refl }
  where
    over : Limits 2 ts (length claims) → ⊥
    over l = omega (arith, l.few_claims)

    alone : (r : Refusal) → equality.Barred ts claims r → r ≡ PastLimit
    alone _ (equality.past_limit _) = refl
    alone _ (equality.not_lower l _) = absurd (over l)
    alone _ (equality.no_term l _ _) = absurd (over l)

many_distant : (ts : List Term) (claims : List Bound) → 128 < length claims → RefusedBy theory.number (distance.Barred ts claims) 1
many_distant ts claims h = record { cause = PastLimit; barred = distance.past_limit over; only = alone; numbered = refl }
  where
    over : Limits 2 ts (length claims) → ⊥
    over l = omega (arith, l.few_claims)

    alone : (r : Refusal) → distance.Barred ts claims r → r ≡ PastLimit
    alone _ (distance.past_limit _) = refl
    alone _ (distance.has_argument l _) = absurd (over l)
    alone _ (distance.no_term l _ _) = absurd (over l)
    alone _ (distance.out_of_range l _ _ _) = absurd (over l)

-- a bound on two terms, and with a constant in range
abbrev Between : Bound → Type 0
Between b = (b.term < 2) × (b.base < 2)

abbrev Near : Bound → Type 0
Near b = (neg_ℤ (pos 1000000) ≤ℤ b.most) × (b.most ≤ℤ pos 1000000)

sound : (claims : List Bound) → length claims ≤ 128 → All Between claims → All Near claims → distance.Sound two_terms claims
sound claims few named near = record {
  limits = limits (length claims) few;
  bare = bare;
  named = λ p h. named p no_bound h;
  in_range = λ p h. near p no_bound h;
}

-- one claim on the two terms, with a constant out of range
far : (c : ℤ) → (InRange (apart 0 1 c ∷ []) → ⊥) → RefusedBy theory.number (distance.Barred two_terms (apart 0 1 c ∷ [])) 3
far c out = record { cause = ConstantOutOfRange; barred = distance.out_of_range few bare named out; only = alone; numbered = refl }
  where
    few : Limits 2 two_terms 1
    few = limits 1 (lit≤ tt)

    named : Named 2 (apart 0 1 c ∷ [])
    named p h = All-replicate Between 1 (apart 0 1 c) (lit< tt, lit< tt) p no_bound h

    alone : (r : Refusal) → distance.Barred two_terms (apart 0 1 c ∷ []) r → r ≡ ConstantOutOfRange
    alone _ (distance.past_limit h) = absurd (h few)
    alone _ (distance.has_argument _ h) = absurd (h bare)
    alone _ (distance.no_term _ _ h) = absurd (h named)
    alone _ (distance.out_of_range _ _ _ _) = refl

-- ---- clauses

-- a row whose clauses are read back, and are past a limit
closed : (n : ℕ) (book : List (List ℕ)) → clauses_in (row_of book) ≡ book → (length book ≤ 512 → size book ≤ 4096 → ⊥) → Closed n book 1
closed n book back over = record { cause = rules.PastLimit; barred = past_limit none; only = alone; numbered = refl }
  where
    none : (b : List (List ℕ)) → Formed (row_of book) b → ⊥
    none b f =
        let is : b ≡ book = sym (formed_only (row_of book) b f) ∙ back in
        over (subst (λ (x : List (List ℕ)). length x ≤ 512) is f.few_clauses) (subst (λ (x : List (List ℕ)). size x ≤ 4096) is f.few_literals)

    alone : (r : Reason) → Barred n (row_of book) r → r ≡ rules.PastLimit
    alone _ (past_limit _) = refl
    alone _ (bad_clause b f _) = absurd (none b f)

opens : (n : ℕ) (book : List (List ℕ)) → length book ≤ 512 → size book ≤ 4096 → All (Proper n) book → Opens n book
opens n book few short proper = record {
  formed = record { of_book = refl; few_clauses = few; few_literals = short };
  proper = record { few_clauses = few; few_literals = short; clauses = proper };
}

-- a list whose elements pass a test that computes
all_below : (n : ℕ) (xs : List ℕ) → list_all (λ x. ltb x n) xs ≡ true → All (λ x. x < n) xs
all_below n xs e = All-weaker (λ x. ltb x n ≡ true) (λ x. x < n) (λ x. ltb-true x n) xs (AllPass-from_list_all (λ x. ltb x n) xs e)

every_proper : Proper 128 every_claim
unfolding listed
every_proper = record { below = all_below 256 every_claim refl; apart_claims = refl }

literals_4096 : Opens 128 (replicate 32 every_claim)
unfolding listed
literals_4096 = opens 128 (replicate 32 every_claim) (lit≤ tt) (lit≤ tt) (All-replicate (Proper 128) 32 every_claim every_proper)

clauses_513 : Closed 0 (replicate 513 []) 1
unfolding clauses_in first_clauses
clauses_513 = closed 0 (replicate 513 []) refl (λ few _. omega arith)

literals_4097 : Closed 128 ((0 ∷ []) ∷ replicate 32 every_claim) 1
unfolding listed clauses_in first_clauses
literals_4097 = closed 128 ((0 ∷ []) ∷ replicate 32 every_claim) refl (λ _ short. omega arith)

pub edges : Edges
edges = record {
  equal_128 = record {
    limits = limits 128 (lit≤ tt);
    lower = lower;
    named = λ i h. All-replicate (λ (c : Claim). (c.left < 2) × (c.right < 2)) 128 (same 0 1) (lit< tt, lit< tt) i _ h;
  };
  equal_129 = many_equal two_terms (replicate 129 (same 0 1)) (lit< tt);
  distant_128 = sound (replicate 128 even) (lit≤ tt) (All-replicate Between 128 even between) (All-replicate Near 128 even (omega (arith, ints), omega (arith, ints)));
  distant_129 = many_distant two_terms (replicate 129 even) (lit< tt);
  clauses_512 = opens 0 (replicate 512 []) (lit≤ tt) (lit≤ tt) (All-replicate (Proper 0) 512 [] (proper_none 0));
  clauses_513 = clauses_513;
  literals_4096 = literals_4096;
  literals_4097 = literals_4097;
  in_range = sound (high ∷ low ∷ []) (lit≤ tt) (two Between high low between between) (two Near high low (omega (arith, ints), omega (arith, ints)) (omega (arith, ints), omega (arith, ints)));
  too_high = far (pos 1000001) (λ h. let past = (h 0 (lit< tt)).1 in omega (arith, ints));
  too_low = far (neg_ℤ (pos 1000001)) (λ h. let past = (h 0 (lit< tt)).0 in omega (arith, ints));
}
  where
    between : (0 < 2) × (1 < 2)
    between = (lit< tt, lit< tt)

    even : Bound
    even = apart 0 1 (pos 0)

    high : Bound
    high = apart 0 1 (pos 1000000)

    low : Bound
    low = apart 0 1 (neg_ℤ (pos 1000000))
