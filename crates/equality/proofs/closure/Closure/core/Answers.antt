use Rattle.std.proofs.Common.{◌≡◌, ℕ, ◌<◌, Bool, List, length, get_or, sym, ap, ◌∙◌, subst, arith, rules}
use Rattle.std.proofs.lemmas.List.{length-take}
use Rattle.congruence.specs.declared.step.Step.{Step}
use Rattle.congruence.specs.Merges.{pair_at, pair_of, label, needed, log_of}
use Rattle.congruence.specs.Equality.{core}
use Rattle.equality.specs.Logs.{log}
use Rattle.equality.proofs.Asking.{clash_at, PutDown, put_down, core_marked}
use Rattle.equality.proofs.closure.Closure.core.Goals as goal
use Rattle.equality.proofs.closure.Closure.core.Goals.{Start}

-- the clash is at a position of the list
within : (c : Start) → c.args.d < length c.args.list.now
within c = (clash_at c.args.self.now.terms.records.now c.args.claims.now c.args.list.now c.args.d (sym c.requires.clash)).0

pub bounds-list-d : goal.bounds-list-d
bounds-list-d c = within (goal.at.bounds-list-d c).Start

pub offset_bounds-list-d : goal.offset_bounds-list-d
offset_bounds-list-d c = record { fits = omega (arith, within (goal.at.offset_bounds-list-d c).Start, c.requires.short) }

pub bounds-claims-from : goal.bounds-claims-from
bounds-claims-from c = omega (arith, c.from.ensures, (c.requires.listed c.args.d (within (goal.at.bounds-claims-from c).Start)).0)

pub needed-cited-requires-clause-near : goal.needed-cited-requires-clause-near
needed-cited-requires-clause-near c =
    subst (λ (i : ℕ). (pair_at c.args.claims.now i).left < length c.args.self.now.terms.records.now) (sym c.from.ensures)
    (c.requires.listed c.args.d (within (goal.at.needed-cited-requires-clause-near c).Start)).1

pub needed-cited-requires-clause-far : goal.needed-cited-requires-clause-far
needed-cited-requires-clause-far c =
    subst (λ (i : ℕ). (pair_at c.args.claims.now i).right < length c.args.self.now.terms.records.now) (sym c.from.ensures)
    (c.requires.listed c.args.d (within (goal.at.needed-cited-requires-clause-far c).Start)).2

pub needed-cited-requires-clause-together : goal.needed-cited-requires-clause-together
needed-cited-requires-clause-together c =
    let older = log c.args.self.now.steps.items in
    let q = pair_of c.args.claims.now (get_or c.args.list.now c.args.d 0) in
    subst (λ (i : ℕ). label older (pair_at c.args.claims.now i).left ≡ label older (pair_at c.args.claims.now i).right) (sym c.from.ensures)
    (ap (λ (l : List Step). label l q.left) c.requires.log
    ∙ (clash_at c.args.self.now.terms.records.now c.args.claims.now c.args.list.now c.args.d (sym c.requires.clash)).1 ∙ ap (λ (l : List Step). label l q.right) (sym c.requires.log))

pub bounds-cited-d : goal.bounds-cited-d
bounds-cited-d c = omega (arith, within (goal.at.bounds-cited-d c).Start, c.requires.short)

-- what was put down
put : (c : goal.After-slice_known-4-1) → PutDown (core c.args.self.now.terms.records.now c.args.claims.now c.args.list.now c.args.d) c.list_marks.result c.args.place.now c.list_marks.new.place
put c =
    let s = c.args.self.now in
    let ts = s.terms.records.now in
    let ss = s.steps.items in
    let ls = c.args.list.now in
    let q = pair_of c.args.claims.now (get_or ls c.args.d 0) in
    let at = within (goal.at.returns-clause-told c).Start in
    let test : ℕ → Bool = λ p. needed ts (log_of ts c.args.claims.now ls) p q.left q.right in
    put_down _ _ _ _ _ c.list_marks.ensures.says c.list_marks.ensures.place
    (core_marked c.needed-cited.result c.args.d (length ls) test (search rules) c.requires.short at
    (λ p h. c.needed-cited.ensures.needed p h
    ∙ ap (λ (i : ℕ). needed ts (log ss) p (pair_at c.args.claims.now i).left (pair_at c.args.claims.now i).right) c.from.ensures
    ∙ ap (λ (l : List Step). needed ts l p q.left q.right) c.requires.log))
    (omega (arith, c.requires.short, length-take {A = Bool}))
    (omega (arith, c.requires.within, length-take {A = Bool}))

pub returns-clause-told : goal.returns-clause-told
returns-clause-told c = (put c).told

pub returns-clause-place : goal.returns-clause-place
returns-clause-place c = (put c).place
