-- The law of every run, put together from what stands of the state that it leads to. Assumes nothing.
use Rattle.std.proofs.Common.{◌≡◌, ℕ, ◌+◌, ◌<◌, ◌≤◌, List, ◌++◌, length, take, drop, min, slice_get, Option, Some, None, IfSome, Result, Ok, ℤ, sym, refl, ap, ◌∙◌, subst, arith}
use Rattle.std.proofs.lemmas.List.{take_at, drop_at, length-map}
use Rattle.std.proofs.lemmas.Option.{slice_get-map}
use Rattle.std.specs.Option.{option_map}
use Rattle.theory.specs.declared.theory.Theory.{Ghosts}
use Rattle.theory.specs.Meaning.{Meaning, Lawful}
use Rattle.theory.specs.Members.{meaning, meaning_at}
use Rattle.rules.specs.declared.refusal.Refusal.{Refusal}
use Rattle.rules.specs.declared.step.Step.{Step}
use Rattle.rules.specs.declared.step.Step.TheVariants.{Fit, NoFit}
use Rattle.rules.specs.declared.step.Verdict.{Verdict}
use Rattle.rules.specs.declared.step.Verdict.TheVariants as verdict
use Rattle.rules.specs.Kinds.{verdict_number}
use Rattle.rules.specs.Clauses.{Book}
use Rattle.rules.specs.States.{opened, asserted, says}
use Rattle.rules.specs.Rules.{judge}
use Rattle.rules.specs.Runs.{run, answers}
use Rattle.rules.specs.Histories.{CanPropose, FitKeeping, NoFitKeeps, VerdictSays, RunStands}
use Rattle.rules.proofs.Histories.{histories_stand}
use Rattle.rules.proofs.Judging.{judged_rightly}
use Rattle.rules.proofs.Reached.{run_known}
use Rattle.clauses.specs.Rows.{Formed}
use Rattle.clauses.proofs.Rows.{formed_only}
use Rattle.history.specs.declared.history.History.{History}
use Rattle.history.specs.Fits.{within}
use Rattle.history.specs.Seen.{means, state}
use Rattle.history.specs.Replays.{place_after, judged_as}
use Rattle.history.specs.Law.{Accepted, Unfit, counts, Answers, Law}
use Rattle.history.proofs.Playing.{Played}
use Rattle.history.proofs.Runs.{taken, accepted_verdict, accepted_place, unfit_place, open_end, counts_tally, counts_up, answers_each}

-- ---- the steps as they are proposed, and as they are judged

from_fit : (len : ℕ) (y : Step) (k : ℕ) → within len y ≡ Fit k → (m : ℕ) × (y ≡ Fit m)
from_fit len (Fit m) k e = (m, refl)
from_fit len y k e = absurd (cc)

from_no_fit : (len : ℕ) (y : Step) → within len y ≡ NoFit → y ≡ NoFit
from_no_fit len NoFit e = refl
from_no_fit len y e = absurd (cc)

within_same : (len : ℕ) (x : Step) → CanPropose len x → within len x ≡ x
within_same len (Fit k) h = let e : min k len ≡ k = omega arith in ap Fit e
within_same len x h = refl

module _ (len : ℕ) (steps : List Step) (told : List (Result ℕ Refusal)) where
  judged : (y : Step) → Accepted steps told y → Accepted (judged_as len steps) told (within len y)
  judged y a = (a.0, a.1, slice_get-map (within len) steps a.0 ∙ ap (option_map (within len)) a.2, a.3)

  -- the step that was proposed
  proposed : (y : Step) → Accepted (judged_as len steps) told y → (x : Step) × (within len x ≡ y) × Accepted steps told x
  proposed y a = go (slice_get steps a.0) refl (sym (slice_get-map (within len) steps a.0) ∙ a.2)
    where
      go : (o : Option Step) → slice_get steps a.0 ≡ o → option_map (within len) o ≡ Some y → (x : Step) × (within len x ≡ y) × Accepted steps told x
      go None q e = absurd (cc)
      go (Some x) q e = (x, cc, (a.0, a.1, q, a.3))

  unfit_judged : Unfit steps told → Unfit (judged_as len steps) told
  unfit_judged u k a =
      let p = proposed (Fit k) a in
      let f = from_fit len p.0 k p.1 in
      u f.0 (subst (Accepted steps told) f.1 p.2)

  no_fit_proposed : Accepted (judged_as len steps) told NoFit → Accepted steps told NoFit
  no_fit_proposed a = let p = proposed NoFit a in subst (Accepted steps told) (from_no_fit len p.0 p.1) p.2

-- ---- the law

module _ (M : Meaning) (law : Lawful M) (book : List (List ℕ)) (b : Book M.claims book) (allowance : ℕ) (steps : List Step) (before : List ℤ) where
  abbrev told : List (Result ℕ Refusal)
  told = answers M (opened book allowance) (judged_as (length before) steps)

  abbrev stood : RunStands M book allowance (judged_as (length before) steps) (run M (opened book allowance) (judged_as (length before) steps))
  stood = histories_stand M law book b allowance (judged_as (length before) steps)

  number : length (counts told) ≡ (run M (opened book allowance) (judged_as (length before) steps)).count
  number = counts_tally M (judged_as (length before) steps) (opened book allowance) ∙ sym stood.counted

  says_so : (v : Verdict) → (run M (opened book allowance) (judged_as (length before) steps)).verdict ≡ Some v
      → VerdictSays M (run M (opened book allowance) (judged_as (length before) steps)) v (verdict_number v)
  says_so v e =
      let s = run M (opened book allowance) (judged_as (length before) steps) in
      subst (λ o. IfSome o (λ w. VerdictSays M s w (verdict_number w))) e stood.stands.verdict

  fits : (k : ℕ) → Accepted steps told (Fit k)
      → FitKeeping M book (take M.terms (place_after M (opened book allowance) (judged_as (length before) steps) before))
      × (drop M.terms (place_after M (opened book allowance) (judged_as (length before) steps) before) ≡ drop M.terms before)
  fits k a =
      let s = run M (opened book allowance) (judged_as (length before) steps) in
      let w = M.written (asserted s.trail) in
      let j = judged (length before) steps told (Fit k) a in
      let said = says_so verdict.Fit (accepted_verdict M (judged_as (length before) steps) (opened book allowance) _ verdict.Fit refl j) in
      let keeps : FitKeeping M book w = subst (λ z. FitKeeping M z w) stood.book_is said.1 in
      let filled = accepted_place M (judged_as (length before) steps) (opened book allowance) before (min k (length before)) j in
      let long : M.terms ≡ length w = sym keeps.0.0 in (
        subst (FitKeeping M book) (sym (ap (take M.terms) filled ∙ ap (λ (n : ℕ). take n (w ++ drop (length w) before)) long ∙ take_at w (drop (length w) before) (length w) refl)) keeps,
        ap (drop M.terms) filled ∙ ap (λ (n : ℕ). drop n (w ++ drop (length w) before)) long ∙ drop_at w (drop (length w) before) (length w) refl
            ∙ ap (λ (n : ℕ). drop n before) (sym long),
      )

  module _ {T : Type 0} {g : Ghosts T} (h : History T g) (at : state h ≡ run M (opened book allowance) (judged_as (length before) steps))
      (same : (y : Step) → says (judge (means h) (state h) y) ≡ says (judge M (run M (opened book allowance) (judged_as (length before) steps)) y)) where
    next : Unfit steps told → (Accepted steps told NoFit → ⊥) → length (counts told) < allowance → M.terms ≤ length before
        → (x : Step) × CanPropose (length before) x × Answers h (within (length before) x) (Ok (length (counts told) + 1))
    next u n less room =
        let s = run M (opened book allowance) (judged_as (length before) steps) in
        let open_still = open_end M (judged_as (length before) steps) (opened book allowance) refl (unfit_judged (length before) steps told u)
        (λ a. n (no_fit_proposed (length before) steps told a)) in
        let on = stood.stands.goes_on open_still (omega (arith, less, number, stood.allowance_is)) (length before) room in
        let e = (judged_rightly M law s (run_known M law book b allowance (judged_as (length before) steps)).facts on.0).accepted on.2.0 in
        let is : judge M s on.0 ≡ Ok on.2.0 = e.1 on.2.1 in
        let count : on.2.0.count ≡ length (counts told) + 1 = omega (arith, (taken M s on.0 on.2.0 is).counted, number) in (
          on.0,
          on.1,
          λ after answer j.
              j.says ∙ same (within (length before) on.0) ∙ ap (λ y. says (judge M s y)) (within_same (length before) on.0 on.1) ∙ ap says is ∙ ap Ok count,
        )

    pub holds : Law M book allowance steps told before (place_after M (opened book allowance) (judged_as (length before) steps) before) h
    holds =
        let xs = judged_as (length before) steps in
        let s0 = opened book allowance in
        record {
          judged = refl;
          each = answers_each M xs s0 ∙ length-map steps (within (length before));
          counted = λ i l. omega (arith, counts_up M xs s0 i l);
          no_fit = λ a.
              subst (NoFitKeeps M) stood.book_is
              (says_so verdict.NoFit (accepted_verdict M xs s0 NoFit verdict.NoFit refl (judged (length before) steps told NoFit a))).1;
          fit = fits;
          unfit = λ u. unfit_place M xs s0 before (unfit_judged (length before) steps told u);
          allowed = omega (arith, number, stood.stands.allowed, stood.allowance_is);
          bounded = omega (arith, number, stood.stands.bounded);
          enough = λ l. omega (arith, number, stood.stands.enough (omega (arith, l, stood.allowance_is)), stood.allowance_is);
          goes_on = next;
        }

-- a book that was read, under other names
pub read_as : {row : List ℕ} {n m : ℕ} {b c : List (List ℕ)} → n ≡ m → b ≡ c → Formed row b × Book n b → Formed row c × Book m c
read_as {row} {n} {m} {b} {c} e f r = subst (λ (k : ℕ). Formed row c × Book k c) e (subst (λ z. Formed row z × Book n z) f r)

-- of what is handed back
pub law_holds : {T : Type 0} {g : Ghosts T} (t : T) (row : List ℕ) (allowance : ℕ) (steps : List Step) (before after : List ℤ) (told : List (Result ℕ Refusal)) (h : History T g)
    → Lawful (meaning g t) → g.shape_of h.theory ≡ g.shape_of t → Formed row (state h).book → Book (g.claims (g.shape_of t)) (state h).book
    → Played (meaning g t) (opened (state h).book allowance) (judged_as (length before) steps) before (state h) told after
    → (book : List (List ℕ)) → Formed row book → Law (meaning g t) book allowance steps told before after h
law_holds {T} {g} t row allowance steps before after told h law shape formed b p book f =
    let M = meaning g t in
    let one : (state h).book ≡ book = sym (formed_only row (state h).book formed) ∙ formed_only row book f in
    let s0 = opened (state h).book allowance in
    let xs = judged_as (length before) steps in
    subst (λ z. Law M z allowance steps told before after h) one
    (subst (λ z. Law M (state h).book allowance steps z before after h) (sym p.answered)
    (subst (λ z. Law M (state h).book allowance steps (answers M s0 xs) before z h) (sym p.filled)
    (holds M law (state h).book b allowance steps before h p.state
    (λ y. ap (λ z. says (judge (meaning_at g z) (state h) y)) shape ∙ ap (λ z. says (judge M z y)) p.state))))
