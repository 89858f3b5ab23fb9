use Rattle.std.proofs.Common.{◌≡◌, ℕ, length, vec_items, true, false, sym, ap, ◌∙◌, arith}
use Rattle.theory.specs.Literals.{has}
use Rattle.rules.specs.Rules.{hit}
use Rattle.clauses.specs.Sets.{members}
use Rattle.trail.specs.Trails.{latest_at}
use Rattle.trail.proofs.Looking.{before, before_all, latest_miss, latest_hit}
use Rattle.trail.proofs.trail.Trail.latest.Goals as goal

pub loop-p-init : goal.loop-p-init
loop-p-init c =
    let a = c.args.self.now in
    let all : length (vec_items a.entries) ≡ c.len-p.result = omega (arith, c.len-p.ensures, a.entries.ok.0) in
    record { within = omega arith; rest = ap (latest_at (members c.args.conflict.now)) (before_all (vec_items a.entries) c.len-p.result (omega arith)) }

pub index-entry-requires : goal.index-entry-requires
index-entry-requires c = omega (arith, c.loop-p.invariant.within, c.args.self.now.entries.ok.0)

pub returns-then-has : goal.returns-then-has
returns-then-has c =
    let C = members c.args.conflict.now in
    let h : hit C c.index-entry.result.now ≡ true = ap (has C) (sym c.complement_of.ensures) ∙ sym c.has.ensures ∙ c.if-has.true in
    sym (latest_hit C (vec_items c.args.self.now.entries) c.loop-p.p c.index-entry.result.now c.loop-p-test.true c.loop-p.invariant.within c.index-entry.ensures h)
    ∙ c.loop-p.invariant.rest

pub loop-p-preserved : goal.loop-p-preserved
loop-p-preserved c =
    let C = members c.args.conflict.now in
    let h : hit C c.index-entry.result.now ≡ false = ap (has C) (sym c.complement_of.ensures) ∙ sym c.has.ensures ∙ c.if-has.false in
    record {
      within = omega (arith, c.loop-p.invariant.within);
      rest = latest_miss C (vec_items c.args.self.now.entries) c.loop-p.p c.index-entry.result.now c.loop-p-test.true c.loop-p.invariant.within c.index-entry.ensures h
          ∙ c.loop-p.invariant.rest;
    }

pub returns : goal.returns
returns c =
    let C = members c.args.conflict.now in
    let es = vec_items c.args.self.now.entries in
    let none : c.loop-p.p ≡ 0 = omega arith in
    ap (λ (p : ℕ). latest_at C (before es p)) (sym none) ∙ c.loop-p.invariant.rest
