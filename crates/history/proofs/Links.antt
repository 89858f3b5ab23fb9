-- That each step keeps what ties a history's table to its theory. Assumes nothing.
use Rattle.std.proofs.Common.{◌≡◌, ℕ, ◌*◌, ◌<◌, ◌≤◌, Bool, true, false, cond, not, eqb, ltb, slice_get, is_none, Option, List, [], ◌∷◌, ◌++◌, length, take, Result, Ok, Err, Some, None, sym, refl, ap, ◌∙◌, subst, arith}
use Rattle.std.proofs.lemmas.Bool.{true≢false, lt-ltb}
use Rattle.std.proofs.lemmas.List.{length_push}
use Rattle.std.specs.List.{list_all, list_any}
use Rattle.theory.specs.Literals.{complement, has, names, Proper}
use Rattle.theory.specs.Meaning.{Meaning, Lawful, Rising, possible, impossible}
use Rattle.theory.specs.Calls.{assert_leaves}
use Rattle.theory.proofs.Claims.{proper_push, proper_few}
use Rattle.rules.specs.declared.entry.Entry.{Entry}
use Rattle.rules.specs.declared.entry.Reason.{Reason}
use Rattle.rules.specs.declared.entry.Reason.TheVariants.{Decided, Clause, Theory}
use Rattle.rules.specs.declared.refusal.Refusal.{Refusal}
use Rattle.rules.specs.declared.refusal.Refusal.TheVariants.{VerdictStands, AllowanceUsed, ConflictStands, ClaimOnTrail, ClaimOffTrail, ClauseNotTrue, TrailPossible}
use Rattle.rules.specs.declared.refusal.Refusal.TheVariants as refusal
use Rattle.rules.specs.declared.step.Step.{Step}
use Rattle.rules.specs.States.{State, literals, asserted, Outcome, says, says as told_of, leaves}
use Rattle.rules.specs.Rules.{blame, true_on, conflicting, demand, given, without, clash, false_on, false_but, latest, live_in, is_learned, is_reason, theory_blames, explained, fresh, unless_over, decide, propagate, conflict, resolve, forget, no_fit}
use Rattle.rules.specs.Runs.{after}
use Rattle.rules.specs.Clauses.{all_below}
use Rattle.rules.specs.Histories.{Reached}
use Rattle.rules.proofs.Accepted.{Leads, Fresh, on_demand, on_given, on_without, on_fresh}
use Rattle.rules.proofs.Reached.{reached_after, reached_trail}
use Rattle.rules.proofs.Trails.{asserted_names, complement_named}
use Rattle.trail.specs.Trails.{blamed}
use Rattle.table.specs.declared.table.Table.{Table}
use Rattle.table.specs.Tables.{state_of, claims_of, blames_of}
use Rattle.table.specs.Steps.{complete, clashing}
use Rattle.history.specs.Links.{Explains, Linked}
use Rattle.history.proofs.Blames.{explains_push, rising_few, blamed_whole, blamed_last}

-- ---- outcomes

-- what holds of an accepted state and of the one before holds of the one that is left
left : {P : State → Type 0} (s : State) (o : Outcome) → Leads P o → P s → P (leaves s o)
left s (Ok s') h p = h.to
left s (Err r) h p = p

-- what holds of an accepted state holds of the one that is left, where the caller is told a count
pub counted_left : {P : State → Type 0} (s : State) (o : Outcome) {k : ℕ} → Leads P o → Ok k ≡ says o → P (leaves s o)
counted_left s (Ok s') h e = h.to
counted_left s (Err r) h e = cc

-- and a refused step leaves the state
refused_left : (s : State) (o : Outcome) {r : Refusal} → Err r ≡ says o → leaves s o ≡ s
refused_left s (Ok s') e = cc
refused_left s (Err r) e = refl

pub on_open : {P : State → Type 0} (s : State) (o : Outcome) → Leads P o → Leads P (unless_over s o)
on_open s o h = on_demand (is_none s.verdict) VerdictStands _ (λ v. on_demand (not (eqb s.count s.allowance)) AllowanceUsed o (λ c. h))

-- ---- steps that leave the trail

abbrev pub SameTrail : State → State → Type 0
SameTrail s s' = s'.trail ≡ s.trail

-- whatever the checks of a rule say, what it leaves has the trail
pub neutral : (s : State) (o : Outcome) → Leads (SameTrail s) o → SameTrail s (leaves s (unless_over s o))
neutral s o h = left {P = SameTrail s} s (unless_over s o) (on_open s o h) refl

pub conflict_stays : (s : State) (c : ℕ) → SameTrail s (leaves s (unless_over s (conflict s c)))
conflict_stays s c = neutral s (conflict s c) (on_without s.conflict _ _ (λ q. on_given (live_in s c) _ _ (λ R e. on_demand (list_all (false_on s.trail) R) _ _ (λ f. record { to = refl }))))

pub resolve_stays : (blames : ℕ → List Entry → Option (List ℕ)) (s : State) → SameTrail s (leaves s (unless_over s (resolve blames s)))
resolve_stays blames s = neutral s (resolve blames s) (on_given s.conflict _ _ (λ C e. on_given (latest C s.trail) _ _ (λ at f. on_given (explained blames (live_in s) at.0.reason at.0.literal at.1) _ _ (λ R g. record { to = refl }))))

pub forget_stays : (s : State) (c : ℕ) → SameTrail s (leaves s (unless_over s (forget s c)))
forget_stays s c = neutral s (forget s c) (on_given (live_in s c) _ _ (λ R e. on_demand (is_learned c) _ _ (λ f. on_demand (not (is_reason c s.trail)) _ _ (λ g. record { to = refl }))))

pub no_fit_stays : (s : State) → SameTrail s (leaves s (unless_over s (no_fit s)))
no_fit_stays s = neutral s (no_fit s) (on_given s.conflict _ _ (λ C e. on_demand (is_none (slice_get C 0)) _ _ (λ f. record { to = refl })))

-- ---- steps that put a literal on the trail

pub record Pushed (n : ℕ) (s : State) (l : ℕ) (r : Reason) (s' : State) : Type 0 where
  pub may : Fresh n s l
  pub trail : s'.trail ≡ record { literal = l; reason = r } ∷ s.trail

pub decide_pushes : (n : ℕ) (s : State) (l : ℕ) → Leads (Pushed n s l Decided) (unless_over s (decide n s l))
decide_pushes n s l = on_open s _ (on_fresh n s l _ (λ f. record { to = record { may = f; trail = refl } }))

pub propagate_pushes : (n : ℕ) (s : State) (c l : ℕ) → Leads (Pushed n s l (Clause c)) (unless_over s (propagate n s c l))
propagate_pushes n s c l =
    on_open s _ (on_fresh n s l _ (λ f. on_given (live_in s c) _ _ (λ R e. on_demand (has R l) _ _ (λ g. on_demand (false_but s.trail l R) _ _ (λ h. record { to = record { may = f; trail = refl } })))))

-- the theory takes what goes on the trail
pub taken : (n : ℕ) (t : List Entry) (l : ℕ) → l < 2 * n → names (literals t) l ≡ false → assert_leaves n (asserted t) l ≡ asserted t ++ l ∷ []
taken n t l below off = go (ltb l (2 * n)) (names (asserted t) l) refl (asserted_names t l ∙ off)
  where
    go : (a b : Bool) → ltb l (2 * n) ≡ a → b ≡ false → cond a (cond b (asserted t) (asserted t ++ l ∷ [])) (asserted t) ≡ asserted t ++ l ∷ []
    go true true q e = cc
    go true false q e = refl
    go false b q e = absurd (true≢false (sym (lt-ltb l (2 * n) below) ∙ q))

-- ---- what ties the table to the theory

-- only the meaning and the list count
pub moved : {S : Type 0} (means : S → Meaning) {a b : S} {xs ys : List ℕ} {t : Table} {sure : Bool} → b ≡ a → ys ≡ xs → Linked (means a) xs t sure → Linked (means b) ys t sure
moved means {a = a} {ys = ys} {t = t} {sure = sure} e f k =
    subst (λ h. Linked (means h) ys t sure) (sym e) (subst (λ z. Linked (means a) z t sure) (sym f) k)

module _ (M : Meaning) {xs : List ℕ} {t t' : Table} {sure : Bool} (k : Linked M xs t sure) (claims : claims_of t' ≡ claims_of t) where
  -- a step that leaves the trail
  pub stays : (x : Step) → blames_of t' ≡ blames_of t → state_of t' ≡ after M (state_of t) x → SameTrail (state_of t) (after M (state_of t) x) → Linked M xs t' sure
  stays x blames state same =
      let trail : (state_of t').trail ≡ (state_of t).trail = ap (λ z. z.trail) state ∙ same in
      record {
        claims = k.claims ∙ sym claims;
        same = k.same ∙ ap asserted (sym trail);
        reached = subst (Reached M) (sym state) (reached_after M (state_of t) k.reached x);
        explains = subst (λ b. Explains M b (state_of t').trail) (sym blames) (subst (Explains M (blames_of t)) (sym trail) k.explains);
        found = λ e. ap (λ z. M.answer (asserted z)) trail ∙ k.found e;
      }

  -- a refused step
  pub declines : {r : Refusal} (o : Outcome) → blames_of t' ≡ blames_of t → Err r ≡ says o → state_of t' ≡ leaves (state_of t) o → Linked M xs t' sure
  declines o blames says state =
      let kept : state_of t' ≡ state_of t = state ∙ refused_left (state_of t) o says in
      record {
        claims = k.claims ∙ sym claims;
        same = k.same ∙ ap (λ z. asserted z.trail) (sym kept);
        reached = subst (Reached M) (sym kept) k.reached;
        explains = subst (λ b. Explains M b (state_of t').trail) (sym blames) (subst (λ z. Explains M (blames_of t) z.trail) (sym kept) k.explains);
        found = λ e. ap (λ z. M.answer (asserted z.trail)) kept ∙ k.found e;
      }

  -- a step that puts a literal on the trail, for which what the theory blames is stored if it followed by the theory
  pub grows : (x : Step) (l : ℕ) (r : Reason) → state_of t' ≡ after M (state_of t) x → Pushed M.claims (state_of t) l r (state_of t')
      → Explains M (blames_of t') (record { literal = l; reason = r } ∷ (state_of t).trail)
      → Linked M (assert_leaves M.claims xs l) t' false
  grows x l r state p ex = record {
    claims = k.claims ∙ sym claims;
    same = ap (λ z. assert_leaves M.claims z l) k.same ∙ taken M.claims (state_of t).trail l p.may.below p.may.off ∙ ap asserted (sym p.trail);
    reached = subst (Reached M) (sym state) (reached_after M (state_of t) k.reached x);
    explains = subst (Explains M (blames_of t')) (sym p.trail) ex;
    found = λ e. cc;
  }

  -- a step that no theory has a part in, which puts a literal on the trail
  pub puts : (x : Step) (l : ℕ) (r : Reason) (o : ℕ → Outcome) → ((n : ℕ) → Leads (Pushed n (state_of t) l r) (unless_over (state_of t) (o n)))
      → after M (state_of t) x ≡ leaves (state_of t) (unless_over (state_of t) (o M.claims)) → (r ≡ Theory → ⊥) → blames_of t' ≡ blames_of t
      → {count : ℕ} → Ok count ≡ says (unless_over (state_of t) (o (claims_of t))) → state_of t' ≡ leaves (state_of t) (unless_over (state_of t) (o (claims_of t)))
      → Linked M (assert_leaves M.claims xs l) t' false
  puts x l r o pushes is plain blames says state =
      let state' : state_of t' ≡ leaves (state_of t) (unless_over (state_of t) (o M.claims)) = state ∙ ap (λ n. leaves (state_of t) (unless_over (state_of t) (o n))) (sym k.claims) in
      let says' = says ∙ ap (λ n. told_of (unless_over (state_of t) (o n))) (sym k.claims) in
      grows x l r (state' ∙ sym is)
      (subst (Pushed M.claims (state_of t) l r) (sym state') (counted_left {P = Pushed M.claims (state_of t) l r} (state_of t) (unless_over (state_of t) (o M.claims)) (pushes M.claims) says'))
      (subst (λ b. Explains M b (record { literal = l; reason = r } ∷ (state_of t).trail)) (sym blames)
      (explains_push M (blames_of t) (record { literal = l; reason = r }) (state_of t).trail plain k.explains))

-- what is found of the trail may be kept
pub finds : {M : Meaning} {xs : List ℕ} {t : Table} {sure : Bool} → Linked M xs t sure → (sure' : Bool) → (sure' ≡ true → M.answer xs ≡ possible) → Linked M xs t sure'
finds {M = M} k sure' f = record {
  claims = k.claims;
  same = k.same;
  reached = k.reached;
  explains = k.explains;
  found = λ e. ap M.answer (sym k.same) ∙ f e;
}

-- ---- checks that were passed, or not

-- what follows checks, or their refusal
abbrev pub and_then : Result (Unit {0}) Refusal → Outcome → Outcome
and_then (Ok u) o = o
and_then (Err r) o = Err r

-- after the checks on a literal
pub fresh_then : (n : ℕ) (s : State) (l : ℕ) (o : Outcome) {checks : Result (Unit {0}) Refusal} → checks ≡ unless_over s (fresh n s l (Ok tt)) → unless_over s (fresh n s l o) ≡ and_then checks o
fresh_then n s l o e = go (is_none s.verdict) (not (eqb s.count s.allowance)) s.conflict (ltb l (2 * n)) (not (names (literals s.trail) l)) ∙ ap (λ c. and_then c o) (sym e)
  where
    go : (v c : Bool) (C : Option (List ℕ)) (a b : Bool)
        → demand v VerdictStands (demand c AllowanceUsed (without C ConflictStands (demand a refusal.NoSuchLiteral (demand b ClaimOnTrail o))))
        ≡ and_then (demand v VerdictStands (demand c AllowanceUsed (without C ConflictStands (demand a refusal.NoSuchLiteral (demand b ClaimOnTrail (Ok tt)))))) o
    go true true None true true = refl
    go true true None true false = refl
    go true true None false b = refl
    go true true (Some C) a b = refl
    go true false C a b = refl
    go false c C a b = refl

-- and after those of a fit that need no theory
pub complete_then : (n : ℕ) (s : State) (o : Outcome) {checks : Result (Unit {0}) Refusal} → checks ≡ unless_over s (complete n s (Ok tt)) → unless_over s (complete n s o) ≡ and_then checks o
complete_then n s o e =
    go (is_none s.verdict) (not (eqb s.count s.allowance)) s.conflict (all_below n (λ i. names (literals s.trail) (2 * i))) (list_all (list_any (true_on s.trail)) s.book) ∙ ap (λ c. and_then c o) (sym e)
  where
    go : (v c : Bool) (C : Option (List ℕ)) (a b : Bool)
        → demand v VerdictStands (demand c AllowanceUsed (without C ConflictStands (demand a ClaimOffTrail (demand b ClauseNotTrue o))))
        ≡ and_then (demand v VerdictStands (demand c AllowanceUsed (without C ConflictStands (demand a ClaimOffTrail (demand b ClauseNotTrue (Ok tt)))))) o
    go true true None true true = refl
    go true true None true false = refl
    go true true None false b = refl
    go true true (Some C) a b = refl
    go true false C a b = refl
    go false c C a b = refl

-- the complement of a literal that may go on the trail has no claim on it either
pub complement_off : {n : ℕ} {s : State} {l : ℕ} → Fresh n s l → names (asserted s.trail) (complement l) ≡ false
complement_off {s = s} {l = l} f = asserted_names s.trail (complement l) ∙ complement_named (literals s.trail) l ∙ f.off

-- ---- what a theory's law gives

module _ (M : Meaning) (law : Lawful M) where
  core_few : (ls core : List ℕ) → Proper M.claims ls → M.answer ls ≡ impossible core → length core ≤ 256
  core_few ls core p e = omega (arith, rising_few (length ls) core (law.core_rises ls core p e), proper_few M.claims ls p, law.few_claims)

  -- a clash with the core that the theory tells is a clash
  pub clash_same : (s : State) (core : List ℕ) → Reached M s → M.answer (asserted s.trail) ≡ impossible core → clashing s core ≡ clash M s
  clash_same s core r e =
      ap (λ R. without s.conflict ConflictStands (Ok (conflicting s R)))
      (blamed_whole (asserted s.trail) 0 core (core_few (asserted s.trail) core (reached_trail M law s r) e))
      ∙ sym (ap (λ a. without s.conflict ConflictStands (given (blame (asserted s.trail) a) TrailPossible (λ R. Ok (conflicting s R)))) e)

  -- what is stored for an implied literal is what the theory blames
  pub implied_blames : (s : State) (l : ℕ) (core : List ℕ) → Reached M s → Fresh M.claims s l → M.answer (asserted s.trail ++ complement l ∷ []) ≡ impossible core
      → theory_blames M l s.trail ≡ Some (take 256 (blamed (asserted s.trail) (complement l) core))
  implied_blames s l core r f e =
      let ls = asserted s.trail in
      let p : Proper M.claims (ls ++ complement l ∷ []) = proper_push M.claims ls (complement l) (reached_trail M law s r) (omega (arith, f.below)) (complement_off f) in
      ap (blame (ls ++ complement l ∷ [])) e
      ∙ ap Some (sym (blamed_whole ls (complement l) core (core_few (ls ++ complement l ∷ []) core p e)
      ∙ blamed_last ls (complement l) core (subst (λ n. Rising n core) (length_push ls (complement l)) (law.core_rises (ls ++ complement l ∷ []) core p e))))
