-- What holds of every state that a history comes to, and that each accepted step keeps it. Assumes nothing.
use Rattle.std.proofs.Common.{◌≡◌, ℕ, ◌-◌, ◌*◌, ◌<◌, ◌≤◌, Bool, true, false, not, cond, ◌&&◌, ◌||◌, eqb, ltb, leb, ◌≢◌, ◌⊎◌, List, [], ◌∷◌, ◌++◌, map, length, filter, set, replicate, slice_get, slice_index, get_or, ℤ, Option, Some, None, inl, inr, refl, sym, ap, ◌∙◌, subst, ⊎_elim, arith}
use Rattle.std.proofs.lemmas.Bool.{both_ways, cases_eq, or_cases, or_left, or_right, and_parts, and_from, not-true, not_from_false, ltb-true, leb-true, lt-ltb, le-leb, eqb-true, eqb-false, ne_eqb, cases_lt}
use Rattle.std.proofs.lemmas.List.{length-set, get_or-replicate, get_or_past}
use Rattle.std.proofs.lemmas.List.Elements.{All-from_recursion, recursion_from_All}
use Rattle.std.proofs.lemmas.Option.{get_or_from_slice_get, slice_get_within}
use Rattle.std.specs.List.{All, AllByRecursion, list_all, list_any}
use Rattle.theory.specs.Literals.{complement, has, names, Proper}
use Rattle.theory.specs.Meaning.{Answer, possible, impossible, Meaning, Lawful, Fit}
use Rattle.theory.proofs.Positions.{all_has}
use Rattle.rules.specs.declared.entry.Reason.{Reason}
use Rattle.rules.specs.declared.entry.Reason.TheVariants.{Decided, Clause, Theory}
use Rattle.rules.specs.declared.entry.Entry.{Entry}
use Rattle.rules.specs.declared.step.Step.{Step}
use Rattle.rules.specs.declared.step.Verdict.{Verdict}
use Rattle.rules.specs.declared.step.Verdict.TheVariants as verdict
use Rattle.rules.specs.Clauses.{Keeps, KeepsAll, Book, only, set_of}
use Rattle.rules.specs.States.{State, opened, literals, asserted, next}
use Rattle.rules.specs.Rules.{true_on, false_on, false_but, up_to, above, hit, latest, is_reason, is_learned, live, live_in, blame, is_possible, theory_blames, explained, longer, remains, conflicting, resolving, jumping, forgetting, ending}
use Rattle.rules.proofs.Lists.{contains, contained, has_push, list_all_has, list_any_has}
use Rattle.rules.proofs.Clauses.{proper_below, set_has, set_only, set_proper}
use Rattle.rules.proofs.Trails.{twice, below_complement, complement_named, asserted_has, Grounded, SoundTrail, sound_entry, exactly_one, blame_own, on_below, on_once, proper_trail, proper_denied, blame_kept, blame_has}
use Rattle.rules.proofs.Views.{latest_view, latest_before, latest_sound, cut_view, cut_sound, cut_has, cut_takes, only_view, live_set_same, live_set_other, trail_moved, not_live}
use Rattle.rules.proofs.Accepted.{Fresh, Accepted, decides, propagates, implies, conflicts, clashes, resolves, jumps, forgets, fits, ends}

-- a conflict is false on the trail
pub record FalseConflict (M : Meaning) (t : List Entry) (C : List ℕ) : Type 0 where
  pub proper : Proper M.claims C
  pub falsified : (m : ℕ) → has C m ≡ true → false_on t m ≡ true

-- no fit is said where no fit keeps the book, fit where the trail is possible and makes every clause of the book true
abbrev pub RightNoFit : Meaning → State → Type 0
RightNoFit M s = s.verdict ≡ Some verdict.NoFit → (v : List ℤ) → Fit M v → KeepsAll M v s.book → ⊥

abbrev pub RightFit : Meaning → State → Type 0
RightFit M s = s.verdict ≡ Some verdict.Fit → (list_all (list_any (true_on s.trail)) s.book ≡ true) × (is_possible (M.answer (asserted s.trail)) ≡ true)

-- what holds of a state by itself; all of it propositions
pub record Facts (M : Meaning) (s : State) : Type 0 where
  pub few_clauses : length s.book ≤ 512
  pub within : s.count ≤ s.allowance
  pub slots : length s.learned ≡ 128
  pub clauses : (c : ℕ) (R : List ℕ) → live_in s c ≡ Some R → Proper M.claims R
  pub trail : SoundTrail M (live_in s) s.trail
  pub conflict : (C : List ℕ) → s.conflict ≡ Some C → FalseConflict M s.trail C
  pub no_fit : RightNoFit M s
  pub fit : RightFit M s

-- and by what came before: every live clause, and the conflict, is kept by every fit that keeps the book
pub record Sound (M : Meaning) (s : State) : Type 0 where
  pub facts : Facts M s
  pub kept : (c : ℕ) (R : List ℕ) → live_in s c ≡ Some R → (v : List ℤ) → Fit M v → KeepsAll M v s.book → Keeps M v R
  pub conflict_kept : (C : List ℕ) → s.conflict ≡ Some C → (v : List ℤ) → Fit M v → KeepsAll M v s.book → Keeps M v C

pub possible_from_is : (a : Answer) → is_possible a ≡ true → a ≡ possible
possible_from_is possible h = refl
possible_from_is (impossible core) h = absurd (both_ways false refl h)

pub false_but_has : (t : List Entry) (l : ℕ) (R : List ℕ) → false_but t l R ≡ true → (m : ℕ) → has R m ≡ true → m ≢ l → false_on t m ≡ true
false_but_has t l R h m i n =
    ⊎_elim (λ e. absurd (n (eqb-true m l e))) (λ e. e) (or_cases (eqb m l) (false_on t m) (list_all_has (λ m. eqb m l || false_on t m) R m h i))

-- ---- resolving

pub remains_cases : (C : List ℕ) (l : ℕ) (R : List ℕ) (m : ℕ) → remains C l R m ≡ true
    → ((has C m ≡ true) × (m ≢ complement l)) ⊎ ((has R m ≡ true) × (m ≢ l))
remains_cases C l R m h =
    ⊎_elim (λ x. let b = and_parts (has C m) (not (eqb m (complement l))) x in inl (b.0, eqb-false m (complement l) (not-true (eqb m (complement l)) b.1)))
    (λ x. let b = and_parts (has R m) (not (eqb m l)) x in inr (b.0, eqb-false m l (not-true (eqb m l) b.1)))
    (or_cases (has C m && not (eqb m (complement l))) (has R m && not (eqb m l)) h)

pub remains_left : (C : List ℕ) (l : ℕ) (R : List ℕ) (m : ℕ) → has C m ≡ true → m ≢ complement l → remains C l R m ≡ true
remains_left C l R m h n =
    or_left (has C m && not (eqb m (complement l))) (has R m && not (eqb m l))
    (and_from (has C m) (not (eqb m (complement l))) h (not_from_false (eqb m (complement l)) (ne_eqb m (complement l) n)))

pub remains_right : (C : List ℕ) (l : ℕ) (R : List ℕ) (m : ℕ) → has R m ≡ true → m ≢ l → remains C l R m ≡ true
remains_right C l R m h n =
    or_right (has C m && not (eqb m (complement l))) (has R m && not (eqb m l))
    (and_from (has R m) (not (eqb m l)) h (not_from_false (eqb m l) (ne_eqb m l n)))

pub number_learned : (c : ℕ) → 512 ≤ c → c < 640 → is_learned c ≡ true
number_learned c h g = and_from (leb 512 c) (ltb c 640) (le-leb 512 c h) (lt-ltb c 640 g)

pub learned_number : (c : ℕ) → is_learned c ≡ true → (512 ≤ c) × (c < 640)
learned_number c h = let b = and_parts (leb 512 c) (ltb c 640) h in (leb-true 512 c b.0, ltb-true c 640 b.1)

module _ (M : Meaning) (law : Lawful M) (s : State) (S : Sound M s) (room : s.count < s.allowance) where
  abbrev F : Facts M s
  F = S.facts

  -- the clauses stay, and no verdict is given
  same_clauses : (t : List Entry) (o : Option (List ℕ)) → SoundTrail M (live_in s) t → ((C : List ℕ) → o ≡ Some C → FalseConflict M t C)
      → ((C : List ℕ) → o ≡ Some C → (v : List ℤ) → Fit M v → KeepsAll M v s.book → Keeps M v C) → Sound M (next s s.learned t o None)
  same_clauses t o k c kept = record {
    facts = record {
      few_clauses = F.few_clauses;
      within = omega (arith, F.within);
      slots = F.slots;
      clauses = F.clauses;
      trail = k;
      conflict = c;
      no_fit = λ q. absurd (cc);
      fit = λ q. absurd (cc);
    };
    kept = S.kept;
    conflict_kept = kept;
  }

  longer_sound : (l : ℕ) (r : Reason) → Fresh M.claims s l → (r ≡ Decided) ⊎ Grounded M (live_in s) (record { literal = l; reason = r }) s.trail → Sound M (longer s l r)
  longer_sound l r f g =
      let e : Entry = record { literal = l; reason = r } in
      same_clauses (e ∷ s.trail) None (sound_entry M (live_in s) e s.trail f.below f.off g, F.trail) (λ C q. absurd (cc)) (λ C q. absurd (cc))

  propagates_sound : (c l : ℕ) (R : List ℕ) → Fresh M.claims s l → live_in s c ≡ Some R → has R l ≡ true → false_but s.trail l R ≡ true → Sound M (longer s l (Clause c))
  propagates_sound c l R f q h t =
      longer_sound l (Clause c) f (inr (record { by = R; is = q; grounds = record { own = h; others = false_but_has s.trail l R t } }))

  -- what the theory blames, where it finds a list impossible
  some_blame : (ls : List ℕ) (a : Answer) → is_possible a ≡ false → (D : List ℕ) × (blame ls a ≡ Some D)
  some_blame ls possible h = absurd (both_ways true h refl)
  some_blame ls (impossible core) h = (map (λ p. complement (slice_index ls p)) core, refl)

  -- of what it blames for a literal, the others are false
  blamed_others : (t : List Entry) (l : ℕ) → SoundTrail M (live_in s) t → l < 2 * M.claims → names (literals t) l ≡ false → (D : List ℕ)
      → theory_blames M l t ≡ Some D → (m : ℕ) → has D m ≡ true → m ≢ l → false_on t m ≡ true
  blamed_others t l k h f D q m i n =
      let ls : List ℕ = asserted t ++ complement l ∷ [] in
      ⊎_elim
      (λ e. let z : complement l ≡ complement m = eqb-true (complement l) (complement m) e in absurd (n (omega arith)))
      (λ e. sym (asserted_has t (complement m)) ∙ e)
      (or_cases (eqb (complement l) (complement m)) (has (asserted t) (complement m))
      (sym (has_push (asserted t) (complement l) (complement m)) ∙ blame_has M law ls (proper_denied M (live_in s) t l k h f) (M.answer ls) D refl q m i))

  implies_sound : (l : ℕ) → Fresh M.claims s l → is_possible (M.answer (asserted s.trail)) ≡ true
      → is_possible (M.answer (asserted s.trail ++ complement l ∷ [])) ≡ false → Sound M (longer s l Theory)
  implies_sound l f p n =
      let ls : List ℕ = asserted s.trail ++ complement l ∷ [] in
      let D = some_blame ls (M.answer ls) n in
      longer_sound l Theory f (inr (record {
        by = D.0;
        is = D.1;
        grounds = record {
          own = blame_own M law s.trail l (proper_trail M (live_in s) s.trail F.trail) (proper_denied M (live_in s) s.trail l F.trail f.below f.off)
              (possible_from_is (M.answer (asserted s.trail)) p) (M.answer ls) D.0 refl D.1;
          others = blamed_others s.trail l F.trail f.below f.off D.0 D.1;
        };
      }))

  -- a conflict is made of the literals that pass a test
  conflict_sound : (test : ℕ → Bool) → ((m : ℕ) → test m ≡ true → false_on s.trail m ≡ true)
      → ((v : List ℤ) → Fit M v → KeepsAll M v s.book → (m : ℕ) × (test m ≡ true) × M.Holds m v) → Sound M (next s s.learned s.trail (Some (set_of test)) None)
  conflict_sound test f k =
      let C : List ℕ = set_of test in
      same_clauses s.trail (Some C) F.trail
      (λ D q. let e : C ≡ D = cc in subst (FalseConflict M s.trail) e (record {
        proper = set_proper M.claims test below (λ m h g. on_once M (live_in s) s.trail F.trail (complement m) (f m h) (f (complement m) g));
        falsified = λ m i. f m (set_only test m i);
      }))
      (λ D q v a b.
      let e : C ≡ D = cc in
      let r = k v a b in
      subst (Keeps M v) e (r.0, contains C r.0 (set_has test r.0 (omega (arith, law.few_claims, below r.0 r.1)) ∙ r.1), r.2))
    where
      below : (m : ℕ) → test m ≡ true → m < 2 * M.claims
      below m h = below_complement m M.claims (on_below M (live_in s) s.trail F.trail (complement m) (f m h))

  conflicts_sound : (c : ℕ) (R : List ℕ) → live_in s c ≡ Some R → list_all (false_on s.trail) R ≡ true → Sound M (conflicting s R)
  conflicts_sound c R q t = conflict_sound (has R) (λ m h. list_all_has (false_on s.trail) R m t h) (λ v a b. let k = S.kept c R q v a b in (k.0, contained R k.0 k.1, k.2))

  clashes_sound : (D : List ℕ) → blame (asserted s.trail) (M.answer (asserted s.trail)) ≡ Some D → Sound M (conflicting s D)
  clashes_sound D q =
      let p = proper_trail M (live_in s) s.trail F.trail in
      let a : Answer = M.answer (asserted s.trail) in
      conflict_sound (has D) (λ m h. sym (asserted_has s.trail (complement m)) ∙ blame_has M law (asserted s.trail) p a D refl q m h)
      (λ v f b. let k = blame_kept M law (asserted s.trail) p a D refl q v f in (k.0, contained D k.0 k.1, k.2))

  -- an explanation is kept by every fit that keeps the book
  explained_kept : (r : Reason) (l : ℕ) (t : List Entry) (R : List ℕ) → explained (theory_blames M) (live_in s) r l t ≡ Some R → SoundTrail M (live_in s) t
      → l < 2 * M.claims → names (literals t) l ≡ false → (v : List ℤ) → Fit M v → KeepsAll M v s.book → Keeps M v R
  explained_kept Decided l t R q k h f v a b = cc
  explained_kept (Clause c) l t R q k h f v a b = S.kept c R q v a b
  explained_kept Theory l t R q k h f v a b =
      let ls : List ℕ = asserted t ++ complement l ∷ [] in
      blame_kept M law ls (proper_denied M (live_in s) t l k h f) (M.answer ls) R refl q v a

  -- of a literal and its complement just one holds, so another literal of the one clause or of the other does
  remains_kept : (C R : List ℕ) (l : ℕ) → l < 2 * M.claims → (v : List ℤ) → Fit M v → Keeps M v C → Keeps M v R → (m : ℕ) × (remains C l R m ≡ true) × M.Holds m v
  remains_kept C R l h v a x y =
      ⊎_elim
      (λ (q : x.0 ≡ complement l).
      ⊎_elim (λ (p : y.0 ≡ l). absurd ((exactly_one M law v a l h).not_both (subst (λ z. M.Holds z v) p y.2) (subst (λ z. M.Holds z v) q x.2)))
      (λ n. (y.0, remains_right C l R y.0 (contained R y.0 y.1) n, y.2)) (cases_eq y.0 l))
      (λ n. (x.0, remains_left C l R x.0 (contained C x.0 x.1) n, x.2))
      (cases_eq x.0 (complement l))

  resolves_sound : (C : List ℕ) (e : Entry) (t : List Entry) (R : List ℕ) → s.conflict ≡ Some C → latest C s.trail ≡ Some (e, t)
      → explained (theory_blames M) (live_in s) e.reason e.literal t ≡ Some R → Sound M (resolving s C e.literal R)
  resolves_sound C e t R q g x =
      let view = latest_view C s.trail (e, t) g in
      let k = latest_sound C M (live_in s) view F.trail in
      let others = (k.0.grounds R x).others in
      conflict_sound (remains C e.literal R)
      (λ m h. ⊎_elim (λ c. (F.conflict C q).falsified m c.0) (λ c. latest_before C view (complement m) (others m c.0 c.1)) (remains_cases C e.literal R m h))
      (λ v a b. remains_kept C R e.literal k.0.below v a (S.conflict_kept C q v a b) (explained_kept e.reason e.literal t R x k.1 k.0.below k.0.fresh v a b))

  jumps_sound : (k c : ℕ) (C : List ℕ) (e : Entry) → s.conflict ≡ Some C → only (filter (hit C) (above k s.trail)) ≡ Some e → is_learned c ≡ true → live_in s c ≡ None
      → Sound M (jumping s C k c (complement e.literal))
  jumps_sound k c C e q g b free =
      let num = learned_number c b in
      let learned : List (Option (List ℕ)) = set s.learned (c - 512) (Some C) in
      let same : live s.book learned c ≡ Some C = live_set_same s.book s.learned c num.0 num.1 F.slots (Some C) in
      let other : (d : ℕ) → d ≢ c → live s.book learned d ≡ live_in s d = live_set_other s.book s.learned c num.0 num.1 F.slots (Some C) in
      let cut = cut_view k s.trail in
      let one = only_view C (above k s.trail) e g in
      let st = F.conflict C q in
      let left = cut_sound k M (live_in s) cut F.trail in
      let l : ℕ = complement e.literal in
      let entry : Entry = record { literal = l; reason = Clause c } in
      record {
        facts = record {
          few_clauses = F.few_clauses;
          within = omega (arith, F.within);
          slots = length-set s.learned (c - 512) (Some C) ∙ F.slots;
          clauses = λ d R p. ⊎_elim (λ (z : d ≡ c). let w : C ≡ R = cc in subst (Proper M.claims) w st.proper)
              (λ (z : d ≢ c). F.clauses d R (sym (other d z) ∙ p)) (cases_eq d c);
          trail = (
            sound_entry M (live s.book learned) entry (up_to k s.trail) (proper_below M.claims C st.proper l one.hits)
                (complement_named (literals (up_to k s.trail)) e.literal ∙ (cut_takes k M.claims cut (proper_trail M (live_in s) s.trail F.trail) e.literal one.on).off)
                (inr (record {
                  by = C;
                  is = same;
                  grounds = record {
                    own = one.hits;
                    others = λ m i n. ⊎_elim
                        (λ j. absurd (n (sym (twice m) ∙ ap complement (one.others (complement m) j (subst (λ z. has C z ≡ true) (sym (twice m)) i)))))
                        (λ j. j) (cut_has k cut (complement m) (st.falsified m i));
                  };
                })),
            trail_moved M (live_in s) (live s.book learned) c other (up_to k s.trail) (not_live M (live_in s) c free (up_to k s.trail) left) left,
          );
          conflict = λ D z. absurd (cc);
          no_fit = λ z. absurd (cc);
          fit = λ z. absurd (cc);
        };
        kept = λ d R p. ⊎_elim (λ (z : d ≡ c). let w : C ≡ R = cc in subst (λ D. (v : List ℤ) → Fit M v → KeepsAll M v s.book → Keeps M v D) w (S.conflict_kept C q))
            (λ (z : d ≢ c). S.kept d R (sym (other d z) ∙ p)) (cases_eq d c);
        conflict_kept = λ D z. absurd (cc);
      }

  forgets_sound : (c : ℕ) → is_learned c ≡ true → is_reason c s.trail ≡ false → Sound M (forgetting s c)
  forgets_sound c b off =
      let num = learned_number c b in
      let learned : List (Option (List ℕ)) = set s.learned (c - 512) None in
      let same : live s.book learned c ≡ None = live_set_same s.book s.learned c num.0 num.1 F.slots None in
      let other : (d : ℕ) → d ≢ c → live s.book learned d ≡ live_in s d = live_set_other s.book s.learned c num.0 num.1 F.slots None in
      let was : (d : ℕ) (R : List ℕ) → live s.book learned d ≡ Some R → live_in s d ≡ Some R = λ d R p. let n : d ≢ c = λ z. absurd (cc) in sym (other d n) ∙ p in
      record {
        facts = record {
          few_clauses = F.few_clauses;
          within = omega (arith, F.within);
          slots = length-set s.learned (c - 512) None ∙ F.slots;
          clauses = λ d R p. F.clauses d R (was d R p);
          trail = trail_moved M (live_in s) (live s.book learned) c other s.trail off F.trail;
          conflict = F.conflict;
          no_fit = λ z. absurd (cc);
          fit = λ z. absurd (cc);
        };
        kept = λ d R p. S.kept d R (was d R p);
        conflict_kept = S.conflict_kept;
      }

  -- a verdict that is right
  ending_sound : (w : Verdict) → RightNoFit M (ending s w) → RightFit M (ending s w) → Sound M (ending s w)
  ending_sound w right_no_fit right_fit = record {
    facts = record {
      few_clauses = F.few_clauses;
      within = omega (arith, F.within);
      slots = F.slots;
      clauses = F.clauses;
      trail = F.trail;
      conflict = F.conflict;
      no_fit = right_no_fit;
      fit = right_fit;
    };
    kept = S.kept;
    conflict_kept = S.conflict_kept;
  }

  pub accepted_sound : {x : Step} {s' : State} → Accepted M s x s' → Sound M s'
  accepted_sound (decides {l = l} f) = longer_sound l Decided f (inl refl)
  accepted_sound (propagates {l = l} {c = c} {R = R} f q h t) = propagates_sound c l R f q h t
  accepted_sound (implies {l = l} f p n) = implies_sound l f p n
  accepted_sound (conflicts c {R = R} q g t) = conflicts_sound c R g t
  accepted_sound (clashes {R = R} q g) = clashes_sound R g
  accepted_sound (resolves {C = C} {R = R} {e = e} {t = t} q g x) = resolves_sound C e t R q g x
  accepted_sound (jumps k c {C = C} {e = e} q g b n) = jumps_sound k c C e q g b n
  accepted_sound (forgets c g b n) = forgets_sound c b n
  accepted_sound (fits q h t p z) = ending_sound verdict.Fit (λ w. absurd (cc)) (λ w. (t, p))
  accepted_sound (ends q) = ending_sound verdict.NoFit (λ w v a b. let k = (S.conflict_kept [] q v a b).1 in omega (arith, k.1)) (λ w. absurd (cc))

-- where fit is said, what is written is a fit that keeps the book
module _ (M : Meaning) (law : Lawful M) (t : List Entry) (proper : Proper M.claims (asserted t)) where
  true_kept : (v : List ℤ) → All (λ l. M.Holds l v) (asserted t) → (cs : List (List ℕ)) → list_all (list_any (true_on t)) cs ≡ true → AllByRecursion (Keeps M v) cs
  true_kept v a [] h = tt
  true_kept v a (c ∷ cs) h =
      let b = and_parts (list_any (true_on t) c) (list_all (list_any (true_on t)) cs) h in
      let x = list_any_has (true_on t) c b.0 in
      let on : has (asserted t) x.0 ≡ true = asserted_has t x.0 ∙ x.2 in
      ((x.0, contains c x.0 x.1, all_has (λ l. M.Holds l v) (asserted t) (recursion_from_All (λ l. M.Holds l v) (asserted t) a) x.0 on), true_kept v a cs b.1)

  pub written_kept : (book : List (List ℕ)) → (list_all (list_any (true_on t)) book ≡ true) × (is_possible (M.answer (asserted t)) ≡ true) → Fit M (M.written (asserted t)) × KeepsAll M (M.written (asserted t)) book
  written_kept book r =
      let q = possible_from_is (M.answer (asserted t)) r.1 in
      let v : List ℤ = M.written (asserted t) in
      (law.possible_fit (asserted t) proper q, All-from_recursion (Keeps M v) book (true_kept v (law.possible_holds (asserted t) proper q) book r.0))

-- the clauses of a new history are those of its book
module _ (M : Meaning) (book : List (List ℕ)) (allowance : ℕ) where
  opened_live : (P : List ℕ → Type 0) → All P book → (c : ℕ) (R : List ℕ) → live book (replicate 128 None) c ≡ Some R → P R
  opened_live P a c R h = go (ltb c 512) h
    where
      empty : get_or {A = Option (List ℕ)} (replicate 128 None) (c - 512) None ≡ None
      empty = ⊎_elim (λ i. get_or-replicate 128 (c - 512) None None i) (λ i. get_or_past (replicate 128 None) (c - 512) None (omega (arith, i))) (cases_lt (c - 512) 128)

      go : (b : Bool) → cond b (slice_get book c) (get_or (replicate 128 None) (c - 512) None) ≡ Some R → P R
      go true q = subst P (get_or_from_slice_get book c R R q) (a c R (slice_get_within book c R q))
      go false q = absurd (let e = empty in cc)

  pub opened_sound : Book M.claims book → Sound M (opened book allowance)
  opened_sound B = record {
    facts = record {
      few_clauses = B.few_clauses;
      within = omega arith;
      slots = refl;
      clauses = opened_live (Proper M.claims) B.clauses;
      trail = tt;
      conflict = λ C q. absurd (cc);
      no_fit = λ q. absurd (cc);
      fit = λ q. absurd (cc);
    };
    kept = λ c R h v a b. opened_live (Keeps M v) b c R h;
    conflict_kept = λ C q. absurd (cc);
  }
