-- What a search has found once it ends, and what it hands back where it does not begin. Assumes nothing.
use Rattle.std.proofs.Common.{◌≡◌, ◌≢◌, ◌⊎◌, ℕ, ◌<◌, ◌≤◌, List, ◌++◌, length, ℤ, Option, Some, None, IfSome, refl, sym, ap, ◌∙◌, subst, ⊎_elim, arith}
use Rattle.std.proofs.lemmas.List.{drop_all, append-nil}
use Rattle.theory.specs.declared.theory.Theory.{Ghosts}
use Rattle.theory.specs.Meaning.{Meaning}
use Rattle.theory.specs.Members.{meaning, meaning_at}
use Rattle.theory.specs.Calls.{over}
use Rattle.rules.specs.declared.refusal.Unopened.{Unopened}
use Rattle.rules.specs.declared.refusal.Unopened.TheVariants.{Refused, NoMemory}
use Rattle.rules.specs.declared.step.Step.{Step}
use Rattle.rules.specs.declared.step.Verdict.{Verdict}
use Rattle.rules.specs.declared.step.Verdict.TheVariants as verdict
use Rattle.rules.specs.Kinds.{verdict_number}
use Rattle.rules.specs.States.{State, opened, asserted}
use Rattle.rules.specs.Histories.{FitKeeping, NoFitKeeps, VerdictSays, Stands, most_steps}
use Rattle.clauses.specs.Rows.{Formed, Unread}
use Rattle.history.specs.declared.history.History.{History}
use Rattle.history.specs.declared.history.Returned.{Returned}
use Rattle.history.specs.Seen.{means, shape, state}
use Rattle.history.specs.Opening.{New, Back}
use Rattle.search.specs.declared.outcome.Outcome.{Outcome}
use Rattle.search.specs.declared.outcome.Outcome.TheVariants.{Spent, Fit, NoFit}
use Rattle.search.specs.Outcomes.{outcome_of}
use Rattle.search.specs.Searches.{Says, Found, NotSearched, barred, short, no_memory}
use Rattle.search.specs.Runs.{Ran, Over, Settled, filled, filled_by}
use Rattle.search.specs.Solved.{Short, Left, HandsBack}
use Rattle.search.proofs.Leading.{leads_counted, leads_kept}

module _ (M : Meaning) (row : List ℕ) (book : List (List ℕ)) (allowance : ℕ) (place after fit0 fit1 : List ℤ) (seen seen' : Option (List Step)) (s : State)
    (formed : Formed row book) (r : Ran M (opened book allowance) s fit0 fit1 seen seen') (S : Stands M s) (ended : Over s) (room : length fit0 ≡ M.terms)
    (put : after ≡ filled_by s.verdict fit1 place) where
  abbrev steps : List Step
  steps = r.steps

  counted : s.count ≡ length steps
  counted = omega (arith, leads_counted M steps (opened book allowance) s r.leads)

  same_book : s.book ≡ book
  same_book = (leads_kept M steps (opened book allowance) s r.leads).book

  same_allowance : s.allowance ≡ allowance
  same_allowance = (leads_kept M steps (opened book allowance) s r.leads).allowance

  -- the numbers of a fit fill the room for one
  all_of : (v : List ℤ) → length v ≡ M.terms → over v fit0 ≡ v
  all_of v e = ap (λ z. v ++ z) (drop_all (length v) fit0 (omega (arith, room, e))) ∙ append-nil v

  says : (o : Option Verdict) → s.verdict ≡ o → Says M book allowance steps place after (outcome_of o)
  says None q = (omega (arith, counted, same_allowance, S.allowed, ended q), put ∙ ap (λ o. filled_by o fit1 place) q)
  says (Some verdict.NoFit) q =
      let v = subst (λ o. IfSome o (λ w. VerdictSays M s w (verdict_number w))) q S.verdict in
      (subst (NoFitKeeps M) same_book v.1, put ∙ ap (λ o. filled_by o fit1 place) q)
  says (Some verdict.Fit) q =
      let v = subst (λ o. IfSome o (λ w. VerdictSays M s w (verdict_number w))) q S.verdict in
      let w : List ℤ = M.written (asserted s.trail) in
      let fits : fit1 ≡ w = r.place ∙ ap (λ o. filled_by o w fit0) q ∙ all_of w v.1.0.0 in
      (w, subst (λ b. FitKeeping M b w) same_book v.1, put ∙ ap (λ o. filled_by o fit1 place) q ∙ ap (λ z. over z place) fits)

  never_spent : (o : Option Verdict) → s.verdict ≡ o → most_steps M.claims ≤ allowance → outcome_of o ≢ Spent
  never_spent None q h = λ z. absurd (let e = S.enough (omega (arith, h, same_allowance)) in let f = ended q in omega arith)
  never_spent (Some verdict.Fit) q h = λ z. cc
  never_spent (Some verdict.NoFit) q h = λ z. cc

  pub found : Found M row allowance place after seen seen' (outcome_of s.verdict) s.count
  found = record {
    book = book;
    formed = formed;
    steps = steps;
    last = s;
    leads = r.leads;
    counted = counted;
    recorded = r.recorded;
    says = says s.verdict refl;
    bounded = S.bounded;
    enough = never_spent s.verdict refl;
  }

pub not_searched : (M : Meaning) (row : List ℕ) (place : List ℤ) (why : Unopened) → Unread M.claims row why → NotSearched M row place why
not_searched M row place (Refused r) u = barred r u
not_searched M row place NoMemory u = no_memory u.0 u.1 u.2

pub too_short : (M : Meaning) (row : List ℕ) (place : List ℤ) (why : Unopened) → length place < M.terms → Short M.claims row why → NotSearched M row place why
too_short M row place why h s =
    ⊎_elim (λ u. not_searched M row place why u)
    (λ b. subst (NotSearched M row place) (sym b.0) (short b.1.0 b.1.1 b.1.2 h)) s

pub left_same : {T : Type 0} (g : Ghosts T) (t : T) (why : Unopened) → Left g t t why
left_same g t (Refused r) = refl
left_same g t NoMemory = refl

module _ {T : Type 0} (g : Ghosts T) (t : T) (row : List ℕ) (place : List ℤ) where
  -- opening was refused, or found no memory
  pub handed_back : (back : Returned T) → Back g t row back → HandsBack g t row place place back
  handed_back back b = record {
    why = not_searched (meaning g t) row place back.why b.why;
    theory = subst (λ u. Left g t u back.why) (sym b.theory) (left_same g t back.why);
    place_is = refl;
  }

  -- the history was open, and there was no memory for the search
  pub out_of_memory : (back : Returned T) {allowance : ℕ} (h : History T g) → New g t row allowance h → back.why ≡ NoMemory → g.shape_of back.theory ≡ shape h
      → HandsBack g t row place place back
  out_of_memory back h n w s = record {
    why = subst (NotSearched (meaning g t) row place) (sym w) (no_memory (state h).book n.formed n.book);
    theory = subst (λ y. Left g t back.theory y) (sym w) (s ∙ n.shape);
    place_is = refl;
  }

-- the search went on from a new history to where nothing was left to do
pub found_by : {T : Type 0} (g : Ghosts T) (t : T) (row : List ℕ) (allowance : ℕ) (place after : List ℤ) (seen seen' : Option (List Step)) (outcome : Outcome) (h h' : History T g)
    → New g t row allowance h → shape h' ≡ shape h → Settled (means h) (state h) (state h') place after seen seen' outcome → Stands (means h') (state h')
    → Found (meaning g t) row allowance place after seen seen' outcome (state h').count
found_by g t row allowance place after seen seen' outcome h h' n e d S =
    subst (λ o. Found (meaning g t) row allowance place after seen seen' o (state h').count) (sym d.outcome_is)
    (found (meaning g t) row (state h).book allowance place after d.room d.fit seen seen' (state h') n.formed
    (subst (λ s. Ran (meaning g t) s (state h') d.room d.fit seen seen') n.state (subst (λ a. Ran (meaning_at g a) (state h) (state h') d.room d.fit seen seen') n.shape d.ran))
    (subst (λ a. Stands (meaning_at g a) (state h')) (e ∙ n.shape) S) d.over (sym d.long ∙ ap (λ a. (meaning_at g a).terms) n.shape) d.put)
