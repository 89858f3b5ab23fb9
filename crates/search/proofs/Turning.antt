-- What a turn of the search did, whether the strategy's step was accepted or the one that is to be had. Assumes nothing.
use Rattle.std.proofs.Common.{◌≡◌, ℕ, true, false, List, length, ℤ, Some, None, Result, Ok, Err, is_ok, min, refl, sym, ap, ◌∙◌, subst, arith}
use Rattle.std.proofs.lemmas.Bool.{both_ways}
use Rattle.theory.specs.declared.theory.Theory.{Ghosts}
use Rattle.theory.specs.Meaning.{Meaning}
use Rattle.theory.specs.Members.{meaning_at}
use Rattle.rules.specs.declared.refusal.Refusal.{Refusal}
use Rattle.rules.specs.declared.step.Step.{Step}
use Rattle.rules.specs.declared.step.Step.TheVariants as step
use Rattle.rules.specs.States.{State, Outcome, says, leaves}
use Rattle.rules.specs.Moves.{Going, Moves, decide, propagate, imply, conflict, clash, resolve, jump, forget, fit, no_fit}
use Rattle.rules.specs.Rules.{judge}
use Rattle.rules.specs.Judged.{JudgedRightly}
use Rattle.rules.specs.Histories.{CanPropose}
use Rattle.rules.specs.Next.{ToBeHad}
use Rattle.history.specs.declared.history.History.{History}
use Rattle.history.specs.Fits.{within, written, fit_over}
use Rattle.history.specs.Seen.{means, shape, state, Judged, left_by}
use Rattle.history.specs.Next.{Same}
use Rattle.search.specs.Runs.{filled}

-- ---- the place

refused_place : (M : Meaning) (s : State) (x : Step) (r : Refusal) (place : List ℤ) → judge M s x ≡ Err r → fit_over M s x place ≡ place
refused_place M s (step.Decide l) r place q = refl
refused_place M s (step.Propagate c l) r place q = refl
refused_place M s (step.Imply l) r place q = refl
refused_place M s (step.Conflict c) r place q = refl
refused_place M s step.Clash r place q = refl
refused_place M s step.Resolve r place q = refl
refused_place M s (step.Jump k c) r place q = refl
refused_place M s (step.Forget c) r place q = refl
refused_place M s (step.Fit k) r place q = ap (λ o. written M s o place) q
refused_place M s step.NoFit r place q = refl

moved_place : (M : Meaning) (s : State) (x : Step) (s' : State) (place : List ℤ) → Moves M s x s' → judge M s x ≡ Ok s' → fit_over M s x place ≡ filled M s' place
moved_place M s x s' place (decide g f) q = refl
moved_place M s x s' place (propagate g f l c o) q = refl
moved_place M s x s' place (imply g f p i) q = refl
moved_place M s x s' place (conflict g n l f t) q = refl
moved_place M s x s' place (clash g n a t) q = refl
moved_place M s x s' place (resolve g n l e t) q = refl
moved_place M s x s' place (jump g n o l c k) q = refl
moved_place M s x s' place (forget g l n r) q = refl
moved_place M s x s' place (fit g n c b p t) q = ap (λ o. written M s o place) q
moved_place M s x s' place (no_fit g n) q = refl

-- a step that a caller can propose uses no more of the place than there is
within_same : (len : ℕ) (x : Step) → CanPropose len x → within len x ≡ x
within_same len (step.Fit k) h = let e : min k len ≡ k = omega arith in ap step.Fit e
within_same len x h = refl

-- ---- one step

-- what an accepted step did: a move, and the place is filled
pub record Took {T : Type 0} {g : Ghosts T} (h h' : History T g) (x : Step) (before after : List ℤ) : Type 0 where
  pub moved : Moves (means h) (state h) x (state h')
  pub place : after ≡ filled (means h) (state h') before

module _ {T : Type 0} {g : Ghosts T} where
  took : (h h' : History T g) (told : Result ℕ Refusal) (x : Step) (count : ℕ) (before after : List ℤ) → Judged h h' told x → after ≡ left_by h x before
      → JudgedRightly (means h) (state h) x → told ≡ Ok count → Took h h' x before after
  took h h' told x count before after j p r q = go (judge (means h) (state h) x) refl
    where
      go : (o : Outcome) → judge (means h) (state h) x ≡ o → Took h h' x before after
      go (Ok s') e =
          let to : state h' ≡ s' = j.state ∙ ap (leaves (state h)) e in
          let m : Moves (means h) (state h) x (state h') = (r.accepted (state h')).0 (e ∙ ap Ok (sym to)) in
          record { moved = m; place = p ∙ moved_place (means h) (state h) x (state h') before m (e ∙ ap Ok (sym to)) }
      go (Err y) e = let z : Err y ≡ Ok count = sym (j.says ∙ ap says e) ∙ q in cc

  -- a refused step leaves the state and the place
  pub record Stayed (h h' : History T g) (before after : List ℤ) : Type 0 where
    pub shape : shape h' ≡ shape h
    pub state : state h' ≡ state h
    pub place : after ≡ before

  stayed : (h h' : History T g) (told : Result ℕ Refusal) (x : Step) (y : Refusal) (before after : List ℤ) → Judged h h' told x → after ≡ left_by h x before
      → told ≡ Err y → Stayed h h' before after
  stayed h h' told x y before after j p q = go (judge (means h) (state h) x) refl
    where
      go : (o : Outcome) → judge (means h) (state h) x ≡ o → Stayed h h' before after
      go (Ok s') e = let z : Ok s'.count ≡ Err y = sym (j.says ∙ ap says e) ∙ q in cc
      go (Err r) e = record { shape = j.shape; state = j.state ∙ ap (leaves (state h)) e; place = p ∙ refused_place (means h) (state h) x r before e }

  -- the same, seen from a history of the same shape and state
  earlier : (h k h' : History T g) (x : Step) (before between after : List ℤ) → shape k ≡ shape h → state k ≡ state h → between ≡ before
      → Took k h' x between after → Took h h' x before after
  earlier h k h' x before between after e f p t = record {
    moved = subst (λ a. Moves (meaning_at g a) (state h) x (state h')) e (subst (λ s. Moves (means k) s x (state h')) f t.moved);
    place = subst (λ a. after ≡ filled (meaning_at g a) (state h') before) e (subst (λ b. after ≡ filled (means k) (state h') b) p t.place);
  }

  -- the strategy's step was accepted
  pub taken_first : (h h1 h' : History T g) (told : Result ℕ Refusal) (x y : Step) (before after : List ℤ) → shape h1 ≡ shape h → state h1 ≡ state h
      → Judged h1 h' told y → after ≡ left_by h1 y before → y ≡ x → ((z : Step) → JudgedRightly (means h1) (state h1) z) → is_ok told ≡ true
      → Took h h' x before after
  taken_first h h1 h' (Ok count) x y before after e f j p same r q =
      subst (λ z. Took h h' z before after) same (earlier h h1 h' y before before after e f refl (took h1 h' (Ok count) y count before after j p (r y) refl))
  taken_first h h1 h' (Err z) x y before after e f j p same r q = absurd (cc)

  -- it was refused, and then the step that is to be had was accepted
  pub taken_second : (h h1 h2 h3 h' : History T g) (told1 told2 : Result ℕ Refusal) (x y : Step) (len : ℕ) (before between after : List ℤ)
      → shape h1 ≡ shape h → state h1 ≡ state h
      → Judged h1 h2 told1 y → between ≡ left_by h1 y before → is_ok told1 ≡ false
      → Same h2 h3 → ToBeHad (means h2) (state h2) x
      → ((z : Step) → JudgedRightly (means h3) (state h3) z)
      → Judged h3 h' told2 (within len x) → after ≡ left_by h3 (within len x) between
      → Going (state h) → (means h).terms ≡ len → Took h h' x before after
  taken_second h h1 h2 h3 h' (Ok n) told2 x y len before between after e f j p q m b r k w going long = absurd (both_ways true q refl)
  taken_second h h1 h2 h3 h' (Err z) told2 x y len before between after e f j p q m b r k w going long =
      let st : Stayed h1 h2 before between = stayed h1 h2 (Err z) y z before between j p refl in
      let to2 : state h2 ≡ state h = st.state ∙ f in
      let shape2 : shape h2 ≡ shape h = st.shape ∙ e in
      let had = b.accepted (subst Going (sym to2) going) in
      let terms2 : (means h2).terms ≡ len = ap (λ a. (meaning_at g a).terms) shape2 ∙ long in
      let same : within len x ≡ x = within_same len x (subst (λ n. CanPropose n x) terms2 b.proposable) in
      let move3 : Moves (means h3) (state h3) x had.0 =
      subst (λ a. Moves (meaning_at g a) (state h3) x had.0) (sym m.shape) (subst (λ s. Moves (means h2) s x had.0) (sym m.state) had.1) in
      let judged : judge (means h3) (state h3) x ≡ Ok had.0 = ((r x).accepted had.0).1 move3 in
      let told : told2 ≡ Ok had.0.count = k.says ∙ ap (λ z. says (judge (means h3) (state h3) z)) same ∙ ap says judged in
      let t : Took h3 h' (within len x) between after = took h3 h' told2 (within len x) had.0.count between after k w (r (within len x)) told in
      earlier h h3 h' x before between after (m.shape ∙ shape2) (m.state ∙ to2) st.place (subst (λ z. Took h3 h' z between after) same t)
