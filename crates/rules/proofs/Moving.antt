-- What a rule accepts is a move, and a state has one move by a step at most. Assumes nothing.
use Rattle.std.proofs.Common.{◌≡◌, ℕ, ◌+◌, ◌*◌, ◌<◌, ◌≤◌, ◌≢◌, true, List, length, Some, None, inl, inr, refl, sym, ap, ◌∙◌, subst, ⊎_elim, arith}
use Rattle.std.specs.List.{Contains}
use Rattle.theory.specs.Literals.{complement, has, names}
use Rattle.theory.specs.Meaning.{Meaning, Lawful}
use Rattle.rules.specs.declared.entry.Reason.TheVariants.{Clause}
use Rattle.rules.specs.declared.entry.Entry.{Entry}
use Rattle.rules.specs.declared.step.Step.{Step}
use Rattle.rules.specs.Clauses.{set_of}
use Rattle.rules.specs.States.{State, literals, asserted, next}
use Rattle.rules.specs.Moves.{Moves, decide, propagate, imply, conflict, clash, resolve, jump, forget, fit, no_fit, Going, Free, Latest, Above, Explained, SetOf, Resolved, denying, blamed, put, entered, dispute}
use Rattle.rules.specs.Rules.{false_on, live_in, remains, blame}
use Rattle.rules.proofs.Lists.{contains, contained, all_below_at, list_all_has}
use Rattle.rules.proofs.Trails.{below_complement, asserted_has, on_below, proper_trail, blame_has}
use Rattle.rules.proofs.Views.{Finds, latest_view, latest_sound, latest_before, cut_above}
use Rattle.rules.proofs.Accepted.{Accepted, Fresh, decides, propagates, implies, conflicts, clashes, resolves, jumps, forgets, fits, ends}
use Rattle.rules.proofs.Accepted as accepted
use Rattle.rules.proofs.Invariant.{Facts, remains_cases, remains_left, remains_right, learned_number, possible_from_is, false_but_has}
use Rattle.rules.proofs.Words.{claim_on, claim_off, false_all, all_but, all_some_true, no_reason, live_from, live_same, none_live, impossible_from, blamed_from, explained_from, set_is, set_same}
use Rattle.rules.proofs.Finding.{latest_is, latest_same, one_above, cut_is, cut_same, explained_same}

module _ (M : Meaning) (law : Lawful M) (s : State) (F : Facts M s) where
  going : accepted.Going s → Going s
  going g = record { no_verdict = g.verdict; left = let n = g.some_left in omega (arith, F.within) }

  free : (l : ℕ) → Fresh M.claims s l → Free M s l
  free l f = record { no_conflict = f.quiet; of_claims = f.below; off_trail = claim_off s.trail l f.off }

  small : (m : ℕ) → m < 2 * M.claims → m < 256
  small m h = omega (arith, law.few_claims)

  false_small : (m : ℕ) → false_on s.trail m ≡ true → m < 256
  false_small m h = small m (below_complement m M.claims (on_below M (live_in s) s.trail F.trail (complement m) h))

  -- what a conflict begins with: the literals of a clause, all of them false
  false_set : (R : List ℕ) → ((m : ℕ) → has R m ≡ true → false_on s.trail m ≡ true) → SetOf (Contains R) (set_of (has R))
  false_set R f = set_is (Contains R) (has R) (λ m c. let h = contained R m c in (false_small m (f m h), h)) (λ m h. contains R m h)

  clash_set : (R : List ℕ) → blame (asserted s.trail) (M.answer (asserted s.trail)) ≡ Some R → SetOf (Contains R) (set_of (has R))
  clash_set R q =
      let p = proper_trail M (live_in s) s.trail F.trail in
      false_set R (λ m i. sym (asserted_has s.trail (complement m)) ∙ blame_has M law (asserted s.trail) p (M.answer (asserted s.trail)) R refl q m i)

  -- and what a resolution leaves
  rest_set : (C R : List ℕ) (e : Entry) (t : List Entry) → s.conflict ≡ Some C → Finds C s.trail e t → ((m : ℕ) → has R m ≡ true → m ≢ e.literal → false_on t m ≡ true)
      → SetOf (Resolved C e.literal R) (set_of (remains C e.literal R))
  rest_set C R e t q v others =
      let l : ℕ = e.literal in
      set_is (Resolved C l R) (remains C l R)
      (λ m. ⊎_elim
      (λ (c : Contains C m × (m ≢ complement l)). let i = contained C m c.0 in (false_small m ((F.conflict C q).falsified m i), remains_left C l R m i c.1))
      (λ (c : Contains R m × (m ≢ l)). let i = contained R m c.0 in (false_small m (latest_before C v (complement m) (others m i c.1)), remains_right C l R m i c.1)))
      (λ m h. ⊎_elim (λ c. inl (contains C m c.0, c.1)) (λ c. inr (contains R m c.0, c.1)) (remains_cases C l R m h))

  pub move : {x : Step} {s' : State} → accepted.Going s → Accepted M s x s' → Moves M s x s'
  move g (decides {l = l} f) = decide (going g) (free l f)
  move g (propagates {l = l} {c = c} {R = R} f q h t) =
      propagate (going g) (free l f) (live_from s c R q) (contains R l h) (all_but s.trail l R (false_but_has s.trail l R t))
  move g (implies {l = l} f p n) =
      imply (going g) (free l f) (possible_from_is (M.answer (asserted s.trail)) p) (impossible_from (M.answer (denying s.trail l)) n)
  move g (conflicts c {R = R} q h t) =
      conflict (going g) q (live_from s c R h) (false_all s.trail R t) (false_set R (λ m i. list_all_has (false_on s.trail) R m t i))
  move g (clashes {R = R} q h) =
      let b = blamed_from (asserted s.trail) (M.answer (asserted s.trail)) R h in
      clash (going g) q b.1 (subst (λ D. SetOf (Contains D) (set_of (has R))) b.2 (clash_set R h))
  move g (resolves {C = C} {R = R} {e = e} {t = t} q h x) =
      let v = latest_view C s.trail (e, t) h in
      let k = latest_sound C M (live_in s) v F.trail in
      resolve (going g) q (latest_is C v) (explained_from M s e t R x) (rest_set C R e t q v (k.0.grounds R x).others)
  move g (jumps k c {C = C} {e = e} q h b n) =
      let num = learned_number c b in
      jump (going g) q (one_above k C s.trail e h) (record { from = num.0; below = num.1 }) (none_live s F.few_clauses c n) (cut_is k (cut_above k C s.trail e h).2)
  move g (forgets c {R = R} h b n) =
      let num = learned_number c b in
      forget (going g) (live_from s c R h) (record { from = num.0; below = num.1 }) (no_reason c s.trail n)
  move g (fits q h t p z) =
      fit (going g) q (λ i l. claim_on s.trail (2 * i) (all_below_at M.claims (λ i. names (literals s.trail) (2 * i)) h i l)) (all_some_true s.trail s.book t)
      (possible_from_is (M.answer (asserted s.trail)) p) z
  move g (ends q) = no_fit (going g) q

-- each move adds one to the count
pub move_counted : {M : Meaning} {s : State} {x : Step} {s' : State} → Moves M s x s' → s'.count ≡ s.count + 1
move_counted (decide g f) = refl
move_counted (propagate g f h i j) = refl
move_counted (imply g f p n) = refl
move_counted (conflict g q h f x) = refl
move_counted (clash g q a x) = refl
move_counted (resolve g q v w x) = refl
move_counted (jump g q o i n x) = refl
move_counted (forget g h i n) = refl
move_counted (fit g q a t p z) = refl
move_counted (no_fit g q) = refl

-- ---- one move at most

module _ (M : Meaning) (s : State) (few : length s.book ≤ 512) where
  same_conflict : (C D : List ℕ) → s.conflict ≡ Some C → s.conflict ≡ Some D → C ≡ D
  same_conflict C D p q = cc

  conflict_same : (R D B E : List ℕ) → R ≡ D → SetOf (Contains R) B → SetOf (Contains D) E → B ≡ E
  conflict_same R D B E q x y = set_same (Contains R) B E x (subst (λ z. SetOf (Contains z) E) (sym q) y)

  rest_same : (C D : List ℕ) (l m : ℕ) (R Q B E : List ℕ) → C ≡ D → l ≡ m → R ≡ Q → SetOf (Resolved C l R) B → SetOf (Resolved D m Q) E → B ≡ E
  rest_same C D l m R Q B E p q r x y =
      set_same (Resolved C l R) B E x
      (subst (λ (z : List ℕ). SetOf (Resolved z l R) E) (sym p) (subst (λ (z : ℕ). SetOf (Resolved D z R) E) (sym q) (subst (λ (z : List ℕ). SetOf (Resolved D m z) E) (sym r) y)))

  pub move_same : {x : Step} {s' s'' : State} → Moves M s x s' → Moves M s x s'' → s' ≡ s''
  move_same (decide g f) (decide g' f') = refl
  move_same (propagate g f h i j) (propagate g' f' h' i' j') = refl
  move_same (imply g f p n) (imply g' f' p' n') = refl
  move_same (conflict {c = c} {R = R} {C = B} g q h f x) (conflict {R = D} {C = E} g' q' h' f' y) =
      ap (dispute s) (conflict_same R D B E (live_same s few c R D h h') x y)
  move_same (clash {core = core} {C = B} g q a x) (clash {core = core'} {C = E} g' q' a' y) =
      let z : core ≡ core' = cc in
      ap (dispute s) (conflict_same (blamed (asserted s.trail) core) (blamed (asserted s.trail) core') B E (ap (blamed (asserted s.trail)) z) x y)
  move_same (resolve {C = C} {R = R} {D = B} {e = e} {before = b} g q v w x) (resolve {C = C'} {R = R'} {D = E} {e = e'} {before = b'} g' q' v' w' y) =
      let p = same_conflict C C' q q' in
      let z = latest_same C s.trail e b e' b' v (subst (λ (z : List ℕ). Latest z s.trail e' b') (sym p) v') in
      let w'' : Explained M s e b R' = subst (λ (z : Entry). Explained M s z b R') (sym z.0) (subst (λ (z : List Entry). Explained M s e' z R') (sym z.1) w') in
      ap (dispute s) (rest_same C C' e.literal e'.literal R R' B E p (ap (λ (z : Entry). z.literal) z.0) (explained_same M s few e b R R' w w'') x y)
  move_same (jump {k = k} {c = c} {l = l} {C = C} {kept = r} g q o i n x) (jump {l = l'} {C = C'} {kept = r'} g' q' o' i' n' y) =
      let p = same_conflict C C' q q' in
      let z : l' ≡ l = o.alone l' (subst (λ (z : List ℕ). Above k z s.trail l') (sym p) o'.above) in
      let w = cut_same k s.trail r r' x y in
      ap (λ (z : List ℕ). next s (put s c (Some z)) (entered l (Clause c) r) None None) p
      ∙ ap (λ (z : ℕ). next s (put s c (Some C')) (entered z (Clause c) r) None None) (sym z)
      ∙ ap (λ (z : List Entry). next s (put s c (Some C')) (entered l' (Clause c) z) None None) w
  move_same (forget g h i n) (forget g' h' i' n') = refl
  move_same (fit g q a t p z) (fit g' q' a' t' p' z') = refl
  move_same (no_fit g q) (no_fit g' q') = refl
