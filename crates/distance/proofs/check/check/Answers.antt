use Rattle.std.proofs.Common.{◌≡◌, ℕ, ◌<◌, Bool, true, false, MatchBool, List, length, pos, neg_ℤ, ◌≤ℤ◌, sym, ◌∙◌, rules, tests}
use Rattle.std.specs.List.{HoldsAt, AllWithin}
use Rattle.std.proofs.lemmas.Bool.{true≢false}
use Rattle.std.proofs.lemmas.Iterator.{cases_from_all, YieldsList-from_slice}
use Rattle.difference.specs.declared.bound.Bound.{Bound}
use Rattle.difference.specs.Bounds.{no_bound, Each}
use Rattle.distance.specs.Checks.{past_limit, has_argument, no_term, out_of_range}
use Rattle.distance.proofs.check.check.Goals as goal

-- a test that failed for one claim
one_fails : (P : Bound → Type 0) (r : Bool) (bs : List Bound) → MatchBool r (AllWithin (λ (b : Bound). Unit {0}) bs 0 (length bs)) ((k : ℕ) × (k < length bs) × HoldsAt (λ b. P b → ⊥) bs k) → r ≡ false → Each P bs → ⊥
one_fails P true bs m e h = true≢false e
one_fails P false bs m e h = m.2 no_bound (h m.0 m.1)

pub returns-then-not-within_limits : goal.returns-then-not-within_limits
returns-then-not-within_limits c = past_limit (λ l. true≢false (sym (c.within_limits.ensures.1 l) ∙ c.if-not-within_limits.true))

pub returns-then-not-few_arguments : goal.returns-then-not-few_arguments
returns-then-not-few_arguments c =
    has_argument
    (c.within_limits.ensures.0 c.if-not-within_limits.false)
    (λ h. true≢false (sym (c.few_arguments.ensures.1 h) ∙ c.if-not-few_arguments.true))

pub returns-then-not-all : goal.returns-then-not-all
returns-then-not-all c =
    no_term
    (c.within_limits.ensures.0 c.if-not-within_limits.false)
    (c.few_arguments.ensures.0 c.if-not-few_arguments.false)
    (one_fails (λ b. (b.term < length c.args.terms.now) × (b.base < length c.args.terms.now)) _ c.args.claims.now
    (cases_from_all _ _ _ (λ _. Unit {0}) (λ b. (b.term < length c.args.terms.now) × (b.base < length c.args.terms.now) → ⊥) c.all.ensures.ran (YieldsList-from_slice c.args.claims.now cc) (λ x q k. search (rules, tests)) (λ x q k. search (rules, tests)))
    c.if-not-all.true)

pub returns-then-not-all-2 : goal.returns-then-not-all-2
returns-then-not-all-2 c =
    out_of_range
    (c.within_limits.ensures.0 c.if-not-within_limits.false)
    (c.few_arguments.ensures.0 c.if-not-few_arguments.false)
    (search rules)
    (one_fails (λ b. (neg_ℤ (pos 1000000) ≤ℤ b.most) × (b.most ≤ℤ pos 1000000)) _ c.args.claims.now
    (cases_from_all _ _ _ (λ _. Unit {0}) (λ b. (neg_ℤ (pos 1000000) ≤ℤ b.most) × (b.most ≤ℤ pos 1000000) → ⊥) c.all-2.ensures.ran (YieldsList-from_slice c.args.claims.now cc) (λ x q k. search (rules, tests)) (λ x q k. search (rules, tests)))
    c.if-not-all-2.true)
