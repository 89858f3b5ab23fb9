-- The literal that a jump puts on the trail. Assumes nothing.
use Rattle.std.proofs.Common.{◌≡◌, ℕ, ◌*◌, Bool, true, not, List, filter, Option, Some, None, Result, Ok, Err, refl, ap, ◌∙◌, subst, arith}
use Rattle.std.proofs.lemmas.Bool.{lt-ltb}
use Rattle.std.specs.Option.{option_map}
use Rattle.theory.specs.Literals.{complement, names, Proper}
use Rattle.rules.specs.declared.entry.Entry.{Entry}
use Rattle.rules.specs.declared.refusal.Refusal.{Refusal}
use Rattle.rules.specs.declared.refusal.Refusal.TheVariants.{NoSuchLiteral, ClaimOnTrail}
use Rattle.rules.specs.Clauses.{only}
use Rattle.rules.specs.States.{literals, asserted}
use Rattle.rules.specs.Rules.{up_to, above, hit, demand}
use Rattle.rules.proofs.Trails.{complement_named, Takes}
use Rattle.rules.proofs.Views.{cut_view, cut_takes, only_view}
use Rattle.trail.specs.Trails.{sole_above, push_says}

-- the trail that a jump leaves takes the literal that it finds
pub sole_goes : (n k : ℕ) (C : List ℕ) (t : List Entry) (l : ℕ) → Proper n (asserted t) → Some l ≡ sole_above k C t → Takes n (up_to k t) l
sole_goes n k C t l p e = go (only (filter (hit C) (above k t))) refl e
  where
    go : (o : Option Entry) → only (filter (hit C) (above k t)) ≡ o → Some l ≡ option_map (λ d. complement d.literal) o → Takes n (up_to k t) l
    go None q e = cc
    go (Some d) q e =
        let m = cut_takes k n (cut_view k t) p d.literal (only_view C (above k t) d q).on in
        let z : complement d.literal ≡ l = cc in
        subst (λ x. Takes n (up_to k t) x) z (record {
          below = omega (arith, m.below);
          off = complement_named (literals (up_to k t)) d.literal ∙ m.off;
        })

-- so it is not refused
pub never : {n n' l : ℕ} {t t' : List Entry} {r : Refusal} → Takes n t l → n' ≡ n → t' ≡ t → Err r ≡ push_says n' t' l → ⊥
never {n} {n'} {l} {t} {t'} m e f h =
    let says = h ∙ ap (λ k. push_says k t' l) e ∙ ap (λ x. push_says n x l) f in
    let goes = ap (λ b. push_if b (names (literals t) l)) (lt-ltb l (2 * n) m.below) ∙ ap (λ b. push_if true b) m.off in
    cc
  where
    push_if : Bool → Bool → Result (Unit {0}) Refusal
    push_if a b = demand a NoSuchLiteral (demand (not b) ClaimOnTrail (Ok tt))
