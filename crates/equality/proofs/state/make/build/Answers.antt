use Rattle.std.proofs.Common.{◌≡◌, ℕ, ◌<◌, ◌≤◌, Bool, false, List, [], ◌∷◌, ◌++◌, length, get_or, replicate, vec_items, sym, refl, ap, ◌∙◌, subst, ⊎_elim, arith, rules}
use lib.ListN.{get_or-replicate, length-replicate}
use Rattle.std.proofs.lemmas.Bool.{cases_lt}
use Rattle.std.proofs.lemmas.List.{get_or_past}
use Rattle.theory.specs.declared.term.Term.{Term}
use Rattle.theory.specs.Asserted.{literals_of}
use Rattle.congruence.specs.declared.claim.Claim.{Claim}
use Rattle.congruence.specs.declared.step.Step.{Step}
use Rattle.congruence.specs.Merges.{settle, log_at}
use Rattle.congruence.specs.Equality.{Named}
use Rattle.congruence.proofs.Law.{log_at_none, stands}
use Rattle.equality.specs.Logs.{until, log}
use Rattle.equality.proofs.Holding.{Held}
use Rattle.equality.proofs.state.make.build.Goals as goal

all_clear : (xs : List Bool) (n : ℕ) → xs ≡ replicate n false → (k : ℕ) → get_or xs k false ≡ false
all_clear xs n e k =
    ap (λ (ys : List Bool). get_or ys k false) e
    ∙ ⊎_elim
    (λ (h : k < n). get_or-replicate n k false false h)
    (λ (h : n ≤ k). get_or_past (replicate n false) k false (omega (arith, length-replicate n false)))
    (cases_lt k n)

-- what is held of no literal
none : (ts us : List Term) (claims : List Claim) (list merges : List ℕ) (ss : List Step) → us ≡ ts → list ≡ [] → merges ≡ [] ++ length ss ∷ [] → log ss ≡ settle ts (length ts) []
    → Held us claims list merges ss
none ts us claims list merges ss same el em e =
    subst (λ (x : List ℕ). Held us claims x merges ss) (sym el) (subst (λ (x : List ℕ). Held us claims [] x ss) (sym em) (subst (λ (x : List Term). Held x claims [] (length ss ∷ []) ss) (sym same) (record {
      proper = record { below = λ k d h. absurd (omega (arith, h)); apart_claims = refl };
      merges_long = refl;
      rising = λ j k a b. let z : j ≡ k = omega arith in omega (arith, ap (λ (i : ℕ). get_or (length ss ∷ []) i 0) z);
      logged = λ k h. let z : k ≡ 0 = omega arith in
          ap (λ (j : ℕ). until ss (get_or (length ss ∷ []) j 0)) z ∙ e ∙ log_at_none ts claims [] ∙ ap (log_at ts claims []) (sym z);
      latest = refl;
    })))

pub invariant_of-result : goal.invariant_of-result
invariant_of-result c =
    let ts = c.args.terms.now in
    let claims = c.args.claims.now in
    let closure = c.in_ok-closure.closure in
    let list = c.in_ok-list.list in
    let merges = c.push_reserved.new.self in
    let marks = c.in_ok-marks.marks in
    let clear : vec_items marks ≡ replicate 256 false = search rules in
    let same : closure.terms.records.now ≡ ts = c.in_ok-closure.ensures.terms ∙ c.new.ensures in
    let h = none ts closure.terms.records.now claims (literals_of list) (vec_items merges) closure.steps.items same c.in_ok-list.ensures.none
    (c.push_reserved.ensures.items ∙ ap (λ (xs : List ℕ). xs ++ c.merges.result ∷ []) c.in_ok-merges.ensures.items ∙ ap (λ (n : ℕ). [] ++ n ∷ []) c.merges.ensures)
    (c.in_ok-closure.ensures.settled ∙ ap (λ (us : List Term). settle us (length us) []) c.new.ensures) in
    record {
      few = c.requires.limits.few_claims;
      named = subst (λ (us : List Term). Named us claims) (sym same) c.requires.named;
      list_claims = c.in_ok-list.ensures.claims;
      merges_room = omega (arith, c.in_ok-merges.ensures.capacity, c.push_reserved.ensures.capacity);
      merges_long = h.merges_long;
      rising = h.rising;
      logged = h.logged;
      latest = h.latest;
      marks_long = ap length clear ∙ length-replicate 256 false;
      clear = all_clear (vec_items marks) 256 clear;
    }

pub returns : goal.returns
returns c =
    let p = c.requires in (
      p,
      record {
        terms_are = c.in_ok-closure.ensures.terms ∙ c.new.ensures;
        claims_are = refl;
        nothing = c.in_ok-list.ensures.none;
        stands = stands c.args.terms.now c.args.claims.now p.limits.few_terms p.lower p.limits.few_claims p.named;
      },
    )
