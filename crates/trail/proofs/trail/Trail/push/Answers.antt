use Rattle.std.proofs.Common.{◌≡◌, ℕ, ◌+◌, ◌<◌, ⊎_elim, Some, List, ◌∷◌, [], ◌++◌, length, reverse, vec_items, set, refl, ap, arith}
use Rattle.std.proofs.lemmas.List.{length_push, length-reverse}
use Rattle.rules.specs.declared.entry.Entry.{Entry}
use Rattle.rules.specs.declared.entry.Reason.{Reason}
use Rattle.rules.specs.States.{decisions, level}
use Rattle.rules.proofs.Trails.{Takes, proper_length}
use Rattle.trail.specs.declared.trail.Trail.{Trail}
use Rattle.trail.specs.Trails.{trail_of}
use Rattle.trail.proofs.Kept.{proper_more, level_few, takes, kept, kept_as, kept_push}
use Rattle.trail.proofs.trail.Trail.push.Goals as goal
use Rattle.trail.proofs.trail.Trail.push.Goals.{in-Decided, in-Clause}

pub overflow_add-level : goal.overflow_add-level
overflow_add-level c =
    let a = c.args.self.now in
    omega (arith, level_few (trail_of a), proper_length a.claims (trail_of a) a.proper, a.few)

pub overflow_cast-self : goal.overflow_cast-self
overflow_cast-self c =
    let a = c.args.self.now in
    omega (arith, length-reverse (vec_items a.entries), proper_length a.claims (trail_of a) a.proper, a.few, a.entries.ok.0)

counted : (r : Reason) (t : List Entry) (k d : ℕ) → decisions r ≡ d → k ≡ d + level t → k ≡ decisions r + level t
counted r t k d e h = omega arith

-- there is room for one more
fits : (a : Trail) (l : ℕ) (r : Reason) → Takes a.claims (trail_of a) l → length (vec_items a.entries) < a.claims
fits a l r t =
    let e : Entry = record { literal = l; reason = r } in
    let w = proper_length a.claims (reverse (vec_items a.entries ++ e ∷ [])) (proper_more a.claims (vec_items a.entries) e a.proper t.below t.off) in
    omega (arith, w, length-reverse (vec_items a.entries ++ e ∷ []), length_push (vec_items a.entries) e)

pub push_reserved-requires : goal.push_reserved-requires
push_reserved-requires c = let a = c.args.self.now in omega (arith, fits a c.args.l c.args.reason (takes a.claims (trail_of a) c.args.l c.in_ok-check.ensures), a.room, a.entries.ok.0)

pub push_reserved-requires-2 : goal.push_reserved-requires-2
push_reserved-requires-2 c =
    let a = c.args.self.now in
    omega (arith, fits a c.args.l c.args.reason (takes a.claims (trail_of a) c.args.l c.in_ok-check.ensures), a.level_room, a.level_each, a.levels.ok.0)

pub invariant_of-self : goal.invariant_of-self
invariant_of-self c =
    let a = c.args.self.now in
    let es = vec_items a.entries in
    let e : Entry = record { literal = c.args.l; reason = c.args.reason } in
    let here : c.match-reason.level ≡ level (e ∷ reverse es) =
    elim c.match-reason.branch [
      | in-Decided w ↦ counted c.args.reason (trail_of a) c.match-reason.level 1 (ap decisions w.in-Decided.is) (omega (arith, w.level-is, w.level.ensures))
      | in-Clause w ↦
          counted c.args.reason (trail_of a) c.match-reason.level 0 (⊎_elim (λ x. ap decisions x.1) (λ x. ap decisions x) w.in-Clause.is)
          (omega (arith, w.level-is, w.level-level.ensures))
    ] in
    let k = kept_as c.push_reserved.ensures.items c.push_reserved-2.ensures.items (ap (λ (i : ℕ). set a.places i (Some c.len.result)) c.from.ensures)
    (kept_as refl refl (ap (λ (p : ℕ). set a.places c.args.l (Some p)) (omega (arith, a.entries.ok.0)))
    (kept_push a.claims es (vec_items a.levels) a.places e c.match-reason.level (kept a) (takes a.claims (trail_of a) c.args.l c.in_ok-check.ensures) (omega (arith, a.few)) here)) in
    record {
      few = a.few;
      room = omega (arith, c.push_reserved.ensures.capacity, a.room);
      level_room = omega (arith, c.push_reserved-2.ensures.capacity, a.level_room);
      level_each = k.level_each;
      proper = k.proper;
      leveled = k.leveled;
      placed = k.placed;
    }
