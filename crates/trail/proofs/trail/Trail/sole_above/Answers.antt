use Rattle.std.proofs.Common.{◌≡◌, ◌≤◌, ◌<◌, ◌-◌, ℕ, Bool, List, [], Some, length, vec_items, get_or, true, false, sym, ap, ◌∙◌, arith}
use Rattle.std.proofs.lemmas.List.{get_or_read}
use Rattle.theory.specs.Literals.{complement, has}
use Rattle.rules.specs.declared.entry.Entry.{Entry}
use Rattle.rules.specs.States.{level}
use Rattle.rules.specs.Rules.{hit}
use Rattle.clauses.specs.Sets.{members}
use Rattle.trail.specs.Trails.{sole_above}
use Rattle.trail.specs.declared.trail.Trail.{Trail}
use Rattle.trail.proofs.Looking.{before, before_all, level_before, sole_left, sole_end, sole_miss, sole_first, sole_second}
use Rattle.trail.proofs.trail.Trail.sole_above.Goals as goal

-- the level that is read
level_read : (a : Trail) (p k : ℕ) → 0 < p → p ≤ length (vec_items a.entries) → k ≡ get_or (vec_items a.levels) (p - 1) k → k ≡ level (before (vec_items a.entries) p)
level_read a p k low high r =
    get_or_read (vec_items a.levels) (p - 1) k (omega (arith, a.level_each)) r 0 ∙ level_before (vec_items a.levels) (vec_items a.entries) p a.leveled low high

-- what the conflict has of an entry
hits : (C : List ℕ) (e : Entry) (l : ℕ) (b d : Bool) → l ≡ complement e.literal → b ≡ has C l → b ≡ d → hit C e ≡ d
hits C e l b d x y z = ap (has C) (sym x) ∙ sym y ∙ z

pub loop-p-init : goal.loop-p-init
loop-p-init c =
    let a = c.args.self.now in
    let all : length (vec_items a.entries) ≡ c.len-p.result = omega (arith, c.len-p.ensures, a.entries.ok.0) in
    record {
      within = omega arith;
      rest = ap (sole_above c.args.k (members c.args.conflict.now)) (before_all (vec_items a.entries) c.len-p.result (omega arith));
    }

pub index-requires : goal.index-requires
index-requires c = let a = c.args.self.now in omega (arith, c.loop-p.invariant.within, a.level_each, a.levels.ok.0)

pub index-requires-in-loop-p : goal.index-requires-in-loop-p
index-requires-in-loop-p c = omega (arith, c.loop-p.invariant.within, c.args.self.now.entries.ok.0)

pub returns-then-is_some : goal.returns-then-is_some
returns-then-is_some c =
    let a = c.args.self.now in
    let C = members c.args.conflict.now in
    let e = c.index-in-loop-p.result.now in
    let r = level_read a c.loop-p.p c.index.result.now c.loop-p-test.true c.loop-p.invariant.within c.index.ensures in
    sym (sole_second c.args.k C (vec_items a.entries) c.loop-p.p e c.loop-p-test.true c.loop-p.invariant.within c.index-in-loop-p.ensures (omega (arith, c.if-index-k.true, r))
    c.loop-p.sole (sym c.is_some.ensures ∙ c.if-is_some.true) (hits C e c.complement_of-l.result c.has.result true c.complement_of-l.ensures c.has.ensures c.if-has.true))
    ∙ c.loop-p.invariant.rest

pub loop-p-preserved-then-has : goal.loop-p-preserved-then-has
loop-p-preserved-then-has c =
    let a = c.args.self.now in
    let p = c.loop-p.p in
    let C = members c.args.conflict.now in
    let e = c.index-in-loop-p.result.now in
    let r = level_read a p c.index.result.now c.loop-p-test.true c.loop-p.invariant.within c.index.ensures in
    record {
      within = omega (arith, c.loop-p.invariant.within);
      rest = ap (λ (l : ℕ). sole_left c.args.k C (Some l) (before (vec_items a.entries) (p - 1))) c.complement_of-l.ensures
          ∙ sole_first c.args.k C (vec_items a.entries) p e c.loop-p-test.true c.loop-p.invariant.within c.index-in-loop-p.ensures (omega (arith, c.if-index-k.true, r))
          c.loop-p.sole (sym c.is_some.ensures ∙ c.if-is_some.false) (hits C e c.complement_of-l.result c.has.result true c.complement_of-l.ensures c.has.ensures c.if-has.true)
          ∙ c.loop-p.invariant.rest;
    }

pub loop-p-preserved : goal.loop-p-preserved
loop-p-preserved c =
    let a = c.args.self.now in
    let p = c.loop-p.p in
    let C = members c.args.conflict.now in
    let e = c.index-in-loop-p.result.now in
    let r = level_read a p c.index.result.now c.loop-p-test.true c.loop-p.invariant.within c.index.ensures in
    record {
      within = omega (arith, c.loop-p.invariant.within);
      rest = sole_miss c.args.k C (vec_items a.entries) p e c.loop-p-test.true c.loop-p.invariant.within c.index-in-loop-p.ensures (omega (arith, c.if-index-k.true, r))
          c.loop-p.sole (hits C e c.complement_of-l.result c.has.result false c.complement_of-l.ensures c.has.ensures c.if-has.false)
          ∙ c.loop-p.invariant.rest;
    }

pub returns-else-index-k : goal.returns-else-index-k
returns-else-index-k c =
    let a = c.args.self.now in
    let r = level_read a c.loop-p.p c.index.result.now c.loop-p-test.true c.loop-p.invariant.within c.index.ensures in
    sym (sole_end c.args.k (members c.args.conflict.now) c.loop-p.sole (before (vec_items a.entries) c.loop-p.p) (omega (arith, c.if-index-k.false, r))) ∙ c.loop-p.invariant.rest

pub returns-after-loop-p : goal.returns-after-loop-p
returns-after-loop-p c =
    let C = members c.args.conflict.now in
    let es = vec_items c.args.self.now.entries in
    let none : c.loop-p.p ≡ 0 = omega arith in
    sym (sole_end c.args.k C c.loop-p.sole [] (omega arith)) ∙ ap (λ (p : ℕ). sole_left c.args.k C c.loop-p.sole (before es p)) (sym none) ∙ c.loop-p.invariant.rest
