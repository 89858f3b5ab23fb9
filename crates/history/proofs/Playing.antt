-- A run of steps on its way. Assumes nothing.
use Rattle.std.proofs.Common.{◌≡◌, ℕ, suc, ◌+◌, ◌<◌, ◌≤◌, List, [], ◌∷◌, ◌++◌, length, get_or, drop, Result, ℤ, sym, refl, ap, ◌∙◌, subst, arith, drop-cons}
use Rattle.std.proofs.lemmas.List.{append_assoc, append-nil, drop_all, length_push, length-map, get_or-map}
use Rattle.theory.specs.Meaning.{Meaning}
use Rattle.rules.specs.declared.refusal.Refusal.{Refusal}
use Rattle.rules.specs.declared.step.Step.{Step}
use Rattle.rules.specs.States.{State, opened, says}
use Rattle.rules.specs.Rules.{judge}
use Rattle.rules.specs.Runs.{after, run, answers}
use Rattle.rules.proofs.Accepted.{accepted_next, run_keeps}
use Rattle.history.specs.Fits.{within, fit_over}
use Rattle.history.specs.Replays.{place_after, judged_as}

-- what is left of the steps leads on to where all of them lead, from a new history
pub record Playing (M : Meaning) (book0 : List (List ℕ)) (allowance : ℕ) (steps : List Step) (place0 : List ℤ) (s : State) (told : List (Result ℕ Refusal)) (place : List ℤ) (i : ℕ) : Type 0 where
  pub state : run M s (drop i steps) ≡ run M (opened book0 allowance) steps
  pub answered : told ++ answers M s (drop i steps) ≡ answers M (opened book0 allowance) steps
  pub filled : place_after M s (drop i steps) place ≡ place_after M (opened book0 allowance) steps place0
  pub counted : length told ≡ i
  pub long : length place ≡ length place0
  pub book : s.book ≡ book0

pub playing_start : (M : Meaning) (allowance : ℕ) (steps : List Step) (place0 : List ℤ) (s : State) → s ≡ opened s.book allowance → Playing M s.book allowance steps place0 s [] place0 0
playing_start M allowance steps place0 s new = record {
  state = ap (λ z. run M z steps) new;
  answered = ap (λ z. answers M z steps) new;
  filled = ap (λ z. place_after M z steps place0) new;
  counted = refl;
  long = refl;
  book = refl;
}

-- one more of them
pub playing_step : (M : Meaning) {book0 : List (List ℕ)} {allowance : ℕ} (steps : List Step) (place0 : List ℤ) (s s' : State) (told told' : List (Result ℕ Refusal)) (place place' : List ℤ) (i : ℕ) (x : Step)
    → drop i steps ≡ x ∷ drop (i + 1) steps → s' ≡ after M s x → told' ≡ told ++ says (judge M s x) ∷ [] → place' ≡ fit_over M s x place → length place' ≡ length place
    → Playing M book0 allowance steps place0 s told place i → Playing M book0 allowance steps place0 s' told' place' (i + 1)
playing_step M {book0} steps place0 s s' told told' place place' i x here to more over same p = record {
  state = ap (λ z. run M z (drop (i + 1) steps)) to ∙ ap (run M s) (sym here) ∙ p.state;
  answered = ap (λ z. told' ++ answers M z (drop (i + 1) steps)) to ∙ ap (λ z. z ++ answers M (after M s x) (drop (i + 1) steps)) more
      ∙ append_assoc told (says (judge M s x) ∷ []) (answers M (after M s x) (drop (i + 1) steps)) ∙ ap (λ z. told ++ answers M s z) (sym here) ∙ p.answered;
  filled = ap (λ z. place_after M z (drop (i + 1) steps) place') to ∙ ap (place_after M (after M s x) (drop (i + 1) steps)) over
      ∙ ap (λ z. place_after M s z place) (sym here) ∙ p.filled;
  counted = ap length more ∙ length_push told (says (judge M s x)) ∙ ap (λ (n : ℕ). n + 1) p.counted;
  long = same ∙ p.long;
  book = ap (λ z. z.book) to ∙ run_keeps M (λ z. z.book ≡ book0) (λ z z' x q g a. (accepted_next a).book ∙ q) (x ∷ []) s p.book;
}

-- and at their end
pub record Played (M : Meaning) (s0 : State) (steps : List Step) (place0 : List ℤ) (s : State) (told : List (Result ℕ Refusal)) (place : List ℤ) : Type 0 where
  pub state : s ≡ run M s0 steps
  pub answered : told ≡ answers M s0 steps
  pub filled : place ≡ place_after M s0 steps place0

pub playing_end : {M : Meaning} {book0 : List (List ℕ)} {allowance : ℕ} (len : ℕ) (steps : List Step) {place0 : List ℤ} {s : State} {told : List (Result ℕ Refusal)} {place : List ℤ} {i : ℕ}
    → length steps ≤ i → Playing M book0 allowance (judged_as len steps) place0 s told place i → Played M (opened s.book allowance) (judged_as len steps) place0 s told place
playing_end {M} {book0} {allowance} len steps {place0} {s} {told} {place} {i} h p =
    let none = drop_all i (judged_as len steps) (omega (arith, h, length-map steps (within len))) in
    subst (λ b. Played M (opened b allowance) (judged_as len steps) place0 s told place) (sym p.book) (record {
      state = ap (run M s) (sym none) ∙ p.state;
      answered = sym (append-nil told) ∙ ap (λ z. told ++ answers M s z) (sym none) ∙ p.answered;
      filled = ap (λ z. place_after M s z place) (sym none) ∙ p.filled;
    })

-- the step that is played next, as it is judged
pub next_judged : (len : ℕ) (steps : List Step) (i : ℕ) (d : Step) → i < length steps
    → drop i (judged_as len steps) ≡ within len (get_or steps i d) ∷ drop (i + 1) (judged_as len steps)
next_judged len steps i d h =
    let z : suc i ≡ i + 1 = omega arith in
    drop-cons (judged_as len steps) i (within len d) (omega (arith, h, length-map steps (within len)))
    ∙ ap (λ y. y ∷ drop (suc i) (judged_as len steps)) (get_or-map (within len) steps i d (within len d) h)
    ∙ ap (λ k. within len (get_or steps i d) ∷ drop k (judged_as len steps)) z
