-- The steps that a theory has a part in, and those that what is stored has a part in. Assumes nothing.
use Rattle.std.proofs.Common.{◌≡◌, ℕ, ◌-◌, ◌*◌, ◌≤◌, Bool, true, false, cond, not, ◌&&◌, eqb, leb, ltb, filter, is_none, slice_get, Some, List, [], ◌∷◌, ◌++◌, length, take, drop, set, Result, Ok, Err, ℤ, sym, refl, ap, ◌∙◌, subst, arith}
use Rattle.std.proofs.lemmas.List.{length_push, length-take-le, append_assoc, take-append-drop, drop-append-le}
use Rattle.std.proofs.lemmas.Bool.{le-leb, leb-true}
use Rattle.std.specs.List.{list_all, list_any}
use Rattle.theory.specs.Literals.{complement, names, Proper}
use Rattle.theory.specs.Meaning.{Meaning, Lawful, Answer, possible, impossible}
use Rattle.theory.specs.Calls.{Told, fit_says, assert_leaves, take_back_leaves, write_says}
use Rattle.theory.specs.declared.refusal.Refusal.TheVariants as theory_refusal
use Rattle.theory.proofs.Claims.{proper_push, proper_few}
use Rattle.theory.proofs.Lists.{take_back_take}
use Rattle.rules.specs.declared.entry.Entry.{Entry}
use Rattle.rules.specs.declared.entry.Reason.TheVariants.{Clause, Theory}
use Rattle.rules.specs.declared.refusal.Refusal.{Refusal}
use Rattle.rules.specs.declared.refusal.Refusal.TheVariants.{VerdictStands, AllowanceUsed, NotImplied, TrailImpossible, ShortFitPlace}
use Rattle.rules.specs.declared.step.Step.TheVariants as step
use Rattle.rules.specs.declared.step.Verdict.TheVariants as verdict
use Rattle.rules.specs.Clauses.{all_below, only}
use Rattle.rules.specs.States.{State, literals, asserted, Outcome, says, leaves}
use Rattle.rules.specs.Rules.{blame, clash, theory_blames, true_on, is_possible, is_learned, live_in, above, up_to, hit, longer, ending, demand, fresh, unless_over, imply, resolve, jump, fit, judge}
use Rattle.rules.specs.Runs.{after}
use Rattle.rules.specs.Histories.{Reached}
use Rattle.rules.proofs.Accepted.{Leads, Fresh, on_demand, on_given, on_without, on_fresh}
use Rattle.rules.proofs.Reached.{reached_after, reached_trail}
use Rattle.rules.proofs.Trails.{asserted_names, asserted_length, latest_goes}
use Rattle.trail.specs.Trails.{blamed}
use Rattle.table.specs.declared.table.Table.{Table}
use Rattle.table.specs.Tables.{state_of, claims_of, blames_of, stored}
use Rattle.table.specs.Steps.{may_enter, complete, clashing, implied, if_allowed}
use Rattle.history.specs.Links.{Explains, Linked}
use Rattle.history.specs.Fits.{written}
use Rattle.history.proofs.Asking.{possible_is}
use Rattle.history.proofs.Blames.{explains_push, explains_end, explains_implied, cut_end, cut_asserted, resolve_same}
use Rattle.history.proofs.Links.{counted_left, taken, on_open, SameTrail, neutral, resolve_stays, stays, grows, fresh_then, complete_then, clash_same, implied_blames}

-- ---- a fit

-- where a fit is written, the list is possible
pub written_possible : (M : Meaning) (xs : List ℕ) (place : List ℤ) → Ok tt ≡ write_says M.terms (M.answer xs) place → is_possible (M.answer xs) ≡ true
written_possible M xs place e = go (ltb (length place) M.terms) (M.answer xs) e
  where
    go : (b : Bool) (a : Answer) → ◌≡◌ {A = Told (Unit {0})} (Ok tt) (cond b (Err theory_refusal.ShortFitPlace) (fit_says a)) → is_possible a ≡ true
    go true a e = cc
    go false possible e = refl
    go false (impossible core) e = cc

-- and the fit is accepted
pub fit_same : (M : Meaning) (s : State) (k : ℕ) → ◌≡◌ {A = Result (Unit {0}) Refusal} (Ok tt) (unless_over s (complete M.claims s (Ok tt)))
    → is_possible (M.answer (asserted s.trail)) ≡ true → M.terms ≤ k → unless_over s (fit M s k) ≡ Ok (ending s verdict.Fit)
fit_same M s k e p h =
    complete_then M.claims s (demand (is_possible (M.answer (asserted s.trail))) TrailImpossible (demand (leb M.terms k) ShortFitPlace (Ok (ending s verdict.Fit)))) e
    ∙ ap (λ b. demand b TrailImpossible (demand (leb M.terms k) ShortFitPlace (Ok (ending s verdict.Fit)))) p
    ∙ ap (λ b. demand b ShortFitPlace (Ok (ending s verdict.Fit))) (le-leb M.terms k h)

-- and where a check that needs no theory fails, it is refused
pub incomplete : {M : Meaning} {xs : List ℕ} {t : Table} {sure : Bool} → Linked M xs t sure → (o : Outcome) {r : Refusal} → ◌≡◌ {A = Result (Unit {0}) Refusal} (Err r) (unless_over (state_of t) (complete (claims_of t) (state_of t) (Ok tt)))
    → unless_over (state_of t) (complete M.claims (state_of t) o) ≡ Err r
incomplete {M} {xs} {t} k o e = complete_then M.claims (state_of t) o (e ∙ ap (λ n. unless_over {A = Unit {0}} (state_of t) (complete n (state_of t) (Ok tt))) (sym k.claims))

-- what is asked before a fit is accepted
fit_asks : (M : Meaning) (s : State) (k : ℕ) → Leads (λ s'. (is_possible (M.answer (asserted s.trail)) ≡ true) × (M.terms ≤ k)) (unless_over s (fit M s k))
fit_asks M s k =
    on_open s (fit M s k) (on_without s.conflict _ _ (λ q. on_demand (all_below M.claims (λ i. names (literals s.trail) (2 * i))) _ _ (λ a.
    on_demand (list_all (list_any (true_on s.trail)) s.book) _ _ (λ b. on_demand (is_possible (M.answer (asserted s.trail))) _ _ (λ p.
    on_demand (leb M.terms k) _ _ (λ h. record { to = (p, leb-true M.terms k h) }))))))

-- a fit that is written into the front of a place is written into the place
pub placed : (M : Meaning) → Lawful M → (s : State) → Reached M s → (m : ℕ) (place : List ℤ) → m ≤ length place
    → written M s (judge M s (step.Fit m)) (take m place) ++ drop m place ≡ written M s (judge M s (step.Fit m)) place
placed M law s r m place h = go (judge M s (step.Fit m)) (fit_asks M s m)
  where
    fit_of : List ℤ
    fit_of = M.written (asserted s.trail)

    go : (o : Outcome) → Leads (λ s'. (is_possible (M.answer (asserted s.trail)) ≡ true) × (M.terms ≤ m)) o → written M s o (take m place) ++ drop m place ≡ written M s o place
    go (Err x) f = take-append-drop m place
    go (Ok s') f =
        let long : length fit_of ≡ M.terms = (law.possible_fit (asserted s.trail) (reached_trail M law s r) (possible_is (M.answer (asserted s.trail)) f.to.0)).0 in
        let w : length fit_of ≤ length (take m place) = omega (arith, long, f.to.1, length-take-le m place h) in
        append_assoc fit_of (drop (length fit_of) (take m place)) (drop m place)
        ∙ ap (λ ys. fit_of ++ ys) (sym (drop-append-le (length fit_of) (take m place) (drop m place) w) ∙ ap (drop (length fit_of)) (take-append-drop m place))

-- what passed some checks passed that no verdict stands and that some allowance is left
pub open_passes : (s : State) (checks : Result (Unit {0}) Refusal) (o : Outcome) → ◌≡◌ {A = Result (Unit {0}) Refusal} (Ok tt) (unless_over s checks) → unless_over s o ≡ o
open_passes s checks o e = go (is_none s.verdict) (not (eqb s.count s.allowance)) e
  where
    go : (v c : Bool) → ◌≡◌ {A = Result (Unit {0}) Refusal} (Ok tt) (demand v VerdictStands (demand c AllowanceUsed checks))
        → demand v VerdictStands (demand c AllowanceUsed o) ≡ o
    go true true e = refl
    go true false e = cc
    go false c e = cc

-- ---- an implied literal

-- where the trail is possible, and impossible with the literal's complement
pub imply_same : (M : Meaning) (s : State) (l : ℕ) → is_possible (M.answer (asserted s.trail)) ≡ true → is_possible (M.answer (asserted s.trail ++ complement l ∷ [])) ≡ false
    → imply M s l ≡ fresh M.claims s l (Ok (longer s l Theory))
imply_same M s l p q =
    ap (λ a. fresh M.claims s l (demand a TrailImpossible (demand (not (is_possible (M.answer (asserted s.trail ++ complement l ∷ [])))) NotImplied (Ok (longer s l Theory))))) p
    ∙ ap (λ b. fresh M.claims s l (demand (not b) NotImplied (Ok (longer s l Theory)))) q

-- and where a check on the literal fails, the step is refused
pub unready : {M : Meaning} {xs : List ℕ} {t : Table} {sure : Bool} → Linked M xs t sure → (l : ℕ) (o : Outcome) {r : Refusal} → Err r ≡ may_enter (claims_of t) (state_of t) l
    → unless_over (state_of t) (fresh M.claims (state_of t) l o) ≡ Err r
unready {M} {xs} {t} k l o e = fresh_then M.claims (state_of t) l o (e ∙ ap (λ n. may_enter n (state_of t) l) (sym k.claims))

always : {X : Type 0} (o : Result (Unit {0}) Refusal) → Leads {A = Unit {0}} (λ u. X) o → Ok tt ≡ o → X
always (Ok u) h e = h.to
always (Err r) h e = cc

-- what passes the checks on its literal may go on the trail
pub fresh_is : (n : ℕ) (s : State) (l : ℕ) → ◌≡◌ {A = Result (Unit {0}) Refusal} (Ok tt) (unless_over s (fresh n s l (Ok tt))) → Fresh n s l
fresh_is n s l e = always (unless_over s (fresh n s l (Ok tt)))
    (on_demand (is_none s.verdict) VerdictStands _ (λ v. on_demand (not (eqb s.count s.allowance)) AllowanceUsed _ (λ c.
    on_fresh n s l (Ok tt) (λ f. record { to = f })))) e

-- a theory that is asked changes nothing of what passed the checks
pub free_still : {t t' : Table} (l : ℕ) → t' ≡ t → ◌≡◌ {A = Result (Unit {0}) Refusal} (Ok tt) (unless_over (state_of t) (fresh (claims_of t) (state_of t) l (Ok tt)))
    → ◌≡◌ {A = Result (Unit {0}) Refusal} (Ok tt) (unless_over (state_of t') (fresh (claims_of t') (state_of t') l (Ok tt)))
free_still l same e = e ∙ ap (λ t. unless_over {A = Unit {0}} (state_of t) (fresh (claims_of t) (state_of t) l (Ok tt))) (sym same)

-- ---- a jump

-- the literal goes on what the cut leaves
pub record Jumped (k c : ℕ) (s s' : State) : Type 0 where
  pub literal : ℕ
  pub trail : s'.trail ≡ record { literal = literal; reason = Clause c } ∷ up_to k s.trail

pub jump_lands : (s : State) (k c : ℕ) → Leads (Jumped k c s) (unless_over s (jump s k c))
jump_lands s k c =
    on_open s (jump s k c) (on_given s.conflict _ _ (λ C e. on_given (only (filter (hit C) (above k s.trail))) _ _ (λ d f.
    on_demand (is_learned c && is_none (live_in s c)) _ _ (λ g. record { to = record { literal = complement d.literal; trail = refl } }))))

-- ---- what ties the table to the theory

clash_stays : (M : Meaning) (s : State) → SameTrail s (leaves s (unless_over s (clash M s)))
clash_stays M s = neutral s (clash M s) (on_without s.conflict _ _ (λ q. on_given (blame (asserted s.trail) (M.answer (asserted s.trail))) _ _ (λ R e. record { to = refl })))

module _ (M : Meaning) {xs : List ℕ} {t : Table} {sure : Bool} (k : Linked M xs t sure) where
  -- what is stored is what the theory blames
  pub resolve_judged : unless_over (state_of t) (resolve (stored (blames_of t)) (state_of t)) ≡ judge M (state_of t) step.Resolve
  resolve_judged = ap (unless_over (state_of t)) (resolve_same M (blames_of t) (state_of t) k.explains)

  -- and the theory's list is the trail
  pub clash_judged : Lawful M → (core : List ℕ) → M.answer xs ≡ impossible core → unless_over (state_of t) (clashing (state_of t) core) ≡ judge M (state_of t) step.Clash
  clash_judged law core e = ap (unless_over (state_of t)) (clash_same M law (state_of t) core k.reached (ap M.answer (sym k.same) ∙ e))

module _ (M : Meaning) {xs : List ℕ} {t t' : Table} {sure : Bool} (k : Linked M xs t sure) (claims : claims_of t' ≡ claims_of t) where
  pub resolves : blames_of t' ≡ blames_of t → state_of t' ≡ leaves (state_of t) (unless_over (state_of t) (resolve (stored (blames_of t)) (state_of t))) → Linked M xs t' sure
  resolves blames state = stays M k claims step.Resolve blames (state ∙ ap (leaves (state_of t)) (resolve_judged M k)) (resolve_stays (theory_blames M) (state_of t))

  pub clashes : Lawful M → (core : List ℕ) → M.answer xs ≡ impossible core → blames_of t' ≡ blames_of t → state_of t' ≡ leaves (state_of t) (unless_over (state_of t) (clashing (state_of t) core)) → Linked M xs t' sure
  clashes law core e blames state = stays M k claims step.Clash blames (state ∙ ap (leaves (state_of t)) (clash_judged M k law core e)) (clash_stays M (state_of t))

  pub ends : (len : ℕ) → ◌≡◌ {A = Result (Unit {0}) Refusal} (Ok tt) (unless_over (state_of t) (complete (claims_of t) (state_of t) (Ok tt))) → is_possible (M.answer xs) ≡ true → M.terms ≤ len
      → blames_of t' ≡ blames_of t → state_of t' ≡ leaves (state_of t) (unless_over (state_of t) (Ok (ending (state_of t) verdict.Fit))) → Linked M xs t' sure
  ends len e p h blames state =
      let e' = e ∙ ap (λ n. unless_over {A = Unit {0}} (state_of t) (complete n (state_of t) (Ok tt))) (sym k.claims) in
      let z : state_of t' ≡ ending (state_of t) verdict.Fit = state ∙ ap (leaves (state_of t)) (open_passes (state_of t) (complete (claims_of t) (state_of t) (Ok tt)) (Ok (ending (state_of t) verdict.Fit)) e) in
      let fits : after M (state_of t) (step.Fit len) ≡ ending (state_of t) verdict.Fit = ap (leaves (state_of t)) (fit_same M (state_of t) len e' (ap (λ ys. is_possible (M.answer ys)) (sym k.same) ∙ p) h) in
      stays M k claims (step.Fit len) blames (z ∙ sym fits) (ap (λ y. y.trail) fits)

  pub implies : Lawful M → (l : ℕ) (core : List ℕ) → Fresh M.claims (state_of t) l → is_possible (M.answer xs) ≡ true → M.answer (xs ++ complement l ∷ []) ≡ impossible core
      → length (blames_of t) ≡ claims_of t
      → ◌≡◌ {A = Result (Unit {0}) Refusal} (Ok tt) (unless_over (state_of t) (fresh (claims_of t) (state_of t) l (Ok tt))) → blames_of t' ≡ implied (claims_of t) (state_of t) l core (blames_of t)
      → state_of t' ≡ leaves (state_of t) (unless_over (state_of t) (fresh (claims_of t) (state_of t) l (Ok (longer (state_of t) l Theory))))
      → Linked M (assert_leaves M.claims xs l) t' false
  implies law l core f p q long e blames state =
      let same = ap (λ ys. M.answer (ys ++ complement l ∷ [])) (sym k.same) ∙ q in
      let ok = e ∙ ap (λ n. unless_over {A = Unit {0}} (state_of t) (fresh n (state_of t) l (Ok tt))) (sym k.claims) in
      let z : state_of t' ≡ longer (state_of t) l Theory =
      state ∙ ap (λ n. leaves (state_of t) (unless_over (state_of t) (fresh n (state_of t) l (Ok (longer (state_of t) l Theory))))) (sym k.claims) ∙ ap (leaves (state_of t)) (fresh_then M.claims (state_of t) l (Ok (longer (state_of t) l Theory)) ok) in
      let after_is : after M (state_of t) (step.Imply l) ≡ longer (state_of t) l Theory =
      ap (λ o. leaves (state_of t) (unless_over (state_of t) o)) (imply_same M (state_of t) l (ap (λ ys. is_possible (M.answer ys)) (sym k.same) ∙ p) (ap is_possible same))
      ∙ ap (leaves (state_of t)) (fresh_then M.claims (state_of t) l (Ok (longer (state_of t) l Theory)) ok) in
      let kept : blames_of t' ≡ set (blames_of t) (length (state_of t).trail) (take 256 (blamed (asserted (state_of t).trail) (complement l) core)) =
      blames ∙ sym (ap (λ r. if_allowed {A = Unit {0}} r (set (blames_of t) (length (state_of t).trail) (take 256 (blamed (asserted (state_of t).trail) (complement l) core))) (blames_of t)) e) in
      let few : length (asserted (state_of t).trail ++ l ∷ []) ≤ M.claims =
      proper_few M.claims (asserted (state_of t).trail ++ l ∷ [])
      (proper_push M.claims (asserted (state_of t).trail) l (reached_trail M law (state_of t) k.reached) f.below (asserted_names (state_of t).trail l ∙ f.off)) in
      grows M k claims (step.Imply l) l Theory (z ∙ sym after_is) (record { may = f; trail = ap (λ y. y.trail) z })
      (subst (λ b. Explains M b (record { literal = l; reason = Theory } ∷ (state_of t).trail)) (sym kept)
      (explains_implied M (blames_of t) l (state_of t).trail (take 256 (blamed (asserted (state_of t).trail) (complement l) core)) (implied_blames M law (state_of t) l core k.reached f same)
      (omega (arith, few, length_push (asserted (state_of t).trail) l, asserted_length (state_of t).trail, long, k.claims)) k.explains))

  -- the theory's list, cut and with the literal at its end, is the trail again
  pub jumps : Lawful M → (level c : ℕ) {count : ℕ} (len : ℕ) (last : Entry) → blames_of t' ≡ blames_of t → Ok count ≡ says (unless_over (state_of t) (jump (state_of t) level c))
      → state_of t' ≡ leaves (state_of t) (unless_over (state_of t) (jump (state_of t) level c)) → Some last ≡ slice_get (state_of t').trail 0 → len ≡ length (state_of t').trail
      → Linked M (assert_leaves M.claims (take_back_leaves xs (len - 1)) last.literal) t' false
  jumps law level c len last blames told state is all =
      let J = subst (Jumped level c (state_of t)) (sym state) (counted_left {P = Jumped level c (state_of t)} (state_of t) (unless_over (state_of t) (jump (state_of t) level c)) (jump_lands (state_of t) level c) told) in
      let e : Entry = record { literal = J.literal; reason = Clause c } in
      let first : Some last ≡ Some e = is ∙ ap (λ z. slice_get z 0) J.trail in
      let here : last ≡ e = cc in
      let long : len - 1 ≡ length (up_to level (state_of t).trail) = omega (arith, all, ap length J.trail) in
      let reached : Reached M (state_of t') = subst (Reached M) (sym state) (reached_after M (state_of t) k.reached (step.Jump level c)) in
      let goes = latest_goes M.claims e (up_to level (state_of t).trail) (subst (λ z. Proper M.claims (asserted z)) J.trail (reached_trail M law (state_of t') reached)) in
      let cut = cut_end level (state_of t).trail in
      record {
        claims = k.claims ∙ sym claims;
        same = ap (λ z. assert_leaves M.claims (take_back_leaves xs (len - 1)) z.literal) here
            ∙ ap (λ z. assert_leaves M.claims z J.literal) (take_back_take xs (len - 1) ∙ ap (λ n. take n xs) long ∙ ap (take (length (up_to level (state_of t).trail))) k.same ∙ cut_asserted level (state_of t).trail)
            ∙ taken M.claims (up_to level (state_of t).trail) J.literal goes.below goes.off ∙ ap asserted (sym J.trail);
        reached = reached;
        explains = subst (λ b. Explains M b (state_of t').trail) (sym blames) (subst (Explains M (blames_of t)) (sym J.trail)
            (explains_push M (blames_of t) e (up_to level (state_of t).trail) (λ z. cc) (subst (Explains M (blames_of t)) cut.1 (explains_end M (blames_of t) cut.0 (state_of t).trail k.explains))));
        found = λ z. cc;
      }
