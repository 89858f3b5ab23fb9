use Rattle.std.proofs.Common.{◌≡◌, ℕ, ◌+◌, ◌∷◌, [], ◌++◌, length, vec_items, reverse, take, set, None, refl, sym, ap, ◌∙◌, arith}
use Rattle.std.proofs.lemmas.List.{length_push}
use Rattle.rules.proofs.Trails.{latest_goes}
use Rattle.trail.proofs.Kept.{Kept, kept, kept_as, kept_pop, proper_turned}
use Rattle.trail.proofs.trail.Trail.pop.Goals as goal
use Rattle.trail.proofs.trail.Trail.pop.Goals.{After-from}

before : (c : After-from) → Kept c.args.self.now.claims (c.pop.new.self.items ++ c.in-Some.entry ∷ []) (vec_items c.args.self.now.levels) c.args.self.now.places
before c = kept_as (sym c.in-Some.ensures.items) refl refl (kept c.args.self.now)

left : (c : After-from) → Kept c.args.self.now.claims c.pop.new.self.items c.pop-in-Some.new.self.items (set c.args.self.now.places c.from.result None)
left c =
    let a = c.args.self.now in
    let es = c.pop.new.self.items in
    let one : length (vec_items a.levels) ≡ length es + 1 = omega (arith, (before c).level_each, length_push es c.in-Some.entry) in
    kept_as refl (c.pop-in-Some.ensures.rest ∙ ap (λ (i : ℕ). take i (vec_items a.levels)) (omega (arith, a.levels.ok.0))) (ap (λ (i : ℕ). set a.places i None) c.from.ensures)
    (kept_pop a.claims es (vec_items a.levels) a.places c.in-Some.entry (before c) (omega (arith, a.few)))

pub bounds-self-from : goal.bounds-self-from
bounds-self-from c =
    let n = c.args.self.now.claims in
    let es = c.pop.new.self.items in
    omega (arith, (latest_goes n c.in-Some.entry (reverse es) (proper_turned n es c.in-Some.entry (before c).proper)).below, c.args.self.now.few)

pub invariant_of-self : goal.invariant_of-self
invariant_of-self c =
    let a = c.args.self.now in
    record {
      few = a.few;
      room = omega (arith, c.in-Some.ensures.capacity, a.room);
      level_room = omega (arith, c.pop-in-Some.ensures.capacity, a.level_room);
      level_each = (left c).level_each;
      proper = (left c).proper;
      leveled = (left c).leveled;
      placed = (left c).placed;
    }
