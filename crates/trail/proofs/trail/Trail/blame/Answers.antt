use Rattle.std.proofs.Common.{◌≡◌, ◌++◌, ◌∷◌, [], ℕ, get_or, take, reverse, List, ap, ◌∙◌}
use Rattle.std.proofs.lemmas.List.{take_all}
use Rattle.rules.specs.declared.entry.Entry.{Entry}
use Rattle.rules.specs.States.{asserted}
use Rattle.clauses.specs.Stored.{clause_of}
use Rattle.trail.specs.Trails.{trail_of, blamed}
use Rattle.trail.proofs.Looking.{named_entry, named_next, blamed_more}
use Rattle.trail.proofs.trail.Trail.blame.Goals as goal
use Rattle.trail.proofs.trail.Trail.blame.Goals.{in-Some, in-None}

pub loop-p-init : goal.loop-p-init
loop-p-init c = c.empty-clause.ensures

pub loop-p-preserved : goal.loop-p-preserved
loop-p-preserved c =
    let a = c.args.self.now in
    let ls = asserted (trail_of a) in
    let at : get_or (asserted (reverse c.deref.result.now)) c.from.result c.args.next ≡ get_or ls (get_or c.args.core.now c.loop-p.p-index 0) c.args.next =
    ap (λ (xs : List Entry). get_or (asserted (reverse xs)) c.from.result c.args.next) c.deref.ensures.value
    ∙ ap (λ (p : ℕ). get_or ls p c.args.next) c.from.ensures in
    let l : c.match-get.l ≡ get_or ls (get_or c.args.core.now c.loop-p.p-index 0) c.args.next =
    elim c.match-get.branch [
      | in-Some w ↦
          w.l-is
          ∙ named_entry c.deref.result.now c.from.result c.args.next w.in-Some.entry.now w.in-Some.ensures.lookup.3.0 (w.in-Some.ensures.lookup.3.1 w.in-Some.entry.now)
          ∙ at
      | in-None w ↦ w.l-is ∙ named_next c.deref.result.now c.from.result c.args.next w.in-None.ensures.lookup.3 ∙ at
    ] in
    c.push.ensures ∙ ap (λ (x : ℕ). take 256 (clause_of c.loop-p.clause ++ x ∷ [])) c.complement_of.ensures
    ∙ blamed_more 256 ls c.args.next c.args.core.now c.loop-p.p-index c.match-get.l (clause_of c.loop-p.clause) c.loop-p-test.true l c.loop-p.invariant

pub returns : goal.returns
returns c =
    c.loop-p.invariant ∙ ap (λ core. take 256 (blamed (asserted (trail_of c.args.self.now)) c.args.next core)) (take_all c.loop-p.p-index c.args.core.now c.loop-p-test.false)
