use Rattle.std.proofs.Common.{◌≡◌, ◌+◌, ap, ◌∙◌, sym, subst, rules, tests, arith}
use Rattle.std.proofs.lemmas.Bool.{not-false, not-true}
use Rattle.std.specs.Option.{option_map, unwrap_or}
use Rattle.rules.specs.declared.entry.Reason.TheVariants.{Decided}
use Rattle.rules.specs.declared.step.Step.TheVariants as step
use Rattle.rules.specs.States.{level}
use Rattle.rules.specs.Next.{Ready, decide, conflict, no_fit, resolve, jump, forget, settled, crowded}
use Rattle.rules.proofs.Accepted.{none_from_is_none}
use Rattle.rules.proofs.Invariant.{number_learned}
use Rattle.clauses.specs.Sets.{members}
use Rattle.table.specs.Tables.{state_of, claims_of}
use Rattle.table.proofs.Next.{fresh_from, full_from, untrue_from, true_from, live_from, latest_some, latest_none, level_latest}
use Rattle.table.proofs.table.Table.next_step.Goals as goal

pub returns-in-Some-first_fresh : goal.returns-in-Some-first_fresh
returns-in-Some-first_fresh c =
    let k = fresh_from (claims_of c.args.self.now) (state_of c.args.self.now).trail c.in-Some-first_fresh.l c.in-Some-first_fresh.ensures.2 in
    decide (ap (option_map members) c.in_default.is) k.0 k.1

pub returns-in_ok-first_untrue-in-None : goal.returns-in_ok-first_untrue-in-None
returns-in_ok-first_untrue-in-None c =
    let s = state_of c.args.self.now in
    let h = c.in_ok-first_untrue-in-None.ensures in
    let k = untrue_from s c.in_ok-first_untrue-in-None.field-0 h.2 in
    conflict (ap (option_map members) c.in_default.is) (full_from (claims_of c.args.self.now) s.trail c.args.self.now.trail.few c.in-None.ensures) h.1 k.1 k.2

pub returns-in_err-first_untrue-in-None : goal.returns-in_err-first_untrue-in-None
returns-in_err-first_untrue-in-None c =
    let s = state_of c.args.self.now in
    rw c.from_residual.ensures (settled (ap (option_map members) c.in_default.is) (full_from (claims_of c.args.self.now) s.trail c.args.self.now.trail.few c.in-None.ensures)
    (λ i R b. true_from s i R (c.in_err-first_untrue-in-None.ensures i (omega arith) b)))

pub returns-in_default-latest : goal.returns-in_default-latest
returns-in_default-latest c =
    no_fit (ap (option_map members) c.in-Some.is) (latest_none (members c.in-Some.conflict) (state_of c.args.self.now).trail (sym c.latest.ensures ∙ c.in_default-latest.is))

pub returns-then-ne : goal.returns-then-ne
returns-then-ne c =
    let w = latest_some (members c.in-Some.conflict) (state_of c.args.self.now).trail c.in-Some-latest.entry c.in-Some-latest.p (sym c.latest.ensures ∙ c.in-Some-latest.is) in
    resolve (ap (option_map members) c.in-Some.is) w.1 (search (rules, tests))

pub returns-in-Some-first_free : goal.returns-in-Some-first_free
returns-in-Some-first_free c =
    let s = state_of c.args.self.now in
    let n = claims_of c.args.self.now in
    let w = latest_some (members c.in-Some.conflict) s.trail c.in-Some-latest.entry c.in-Some-latest.p (sym c.latest.ensures ∙ c.in-Some-latest.is) in
    let h = c.in-Some-first_free.ensures in
    let i = c.in-Some-first_free.c in
    let d : c.in-Some-latest.entry.reason ≡ Decided = search (rules, tests) in
    let e = c.unwrap_or-level.ensures ∙ ap (λ o. unwrap_or o 0) c.level_at.ensures ∙ level_latest (members c.in-Some.conflict) s.trail c.in-Some-latest.entry w.0 c.in-Some-latest.p w.1 w.2 d in
    let k : level w.0 ≡ c.saturating_sub.result = omega (arith, e, c.saturating_sub.ensures) in
    subst (λ k. Ready n s (step.Jump k i)) k (jump (ap (option_map members) c.in-Some.is) w.1 d (number_learned i h.0 h.1) (none_from_is_none _ h.2))

pub returns-in_ok-first_unused-in-None-first_free : goal.returns-in_ok-first_unused-in-None-first_free
returns-in_ok-first_unused-in-None-first_free c =
    let h = c.in_ok-first_unused-in-None-first_free.ensures in
    let i = c.in_ok-first_unused-in-None-first_free.field-0 in
    let k = live_from (state_of c.args.self.now) i (c.in-None-first_free.ensures i h.0 h.1) in
    forget k.1 (number_learned i h.0 h.1) (not-true _ h.2)

pub returns-in_err-first_unused-in-None-first_free : goal.returns-in_err-first_unused-in-None-first_free
returns-in_err-first_unused-in-None-first_free c =
    let w = latest_some (members c.in-Some.conflict) (state_of c.args.self.now).trail c.in-Some-latest.entry c.in-Some-latest.p (sym c.latest.ensures ∙ c.in-Some-latest.is) in
    rw c.from_residual-in_err-first_unused-in-None-first_free.ensures (crowded {before = w.0} (ap (option_map members) c.in-Some.is) w.1 (search (rules, tests))
    (λ i b. not-false _ (c.in_err-first_unused-in-None-first_free.ensures (512 + i) (omega arith) (omega arith))))
