use Rattle.std.proofs.Common.{ℕ, Bool, false, ◌&&◌, ◌||◌, get_or, length, sym, ap, ◌∙◌, rules}
use Rattle.std.proofs.lemmas.List.{length_push}
use Rattle.std.proofs.lemmas.Slice.Zip.{zip_turn}
use Rattle.congruence.specs.declared.step.Step.{Step}
use Rattle.equality.specs.Logs.{step_at}
use Rattle.equality.specs.Asked.{asserted, covers}
use Rattle.equality.proofs.Marking.{any_more}
use Rattle.equality.proofs.query.cite_all.Goals as goal

pub loop-s-preserved : goal.loop-s-preserved
loop-s-preserved c p h =
    let f : ℕ → Bool = λ j. get_or c.args.marks.now j false && asserted (step_at c.args.steps.now j).reason p in
    let n = length c.loop-s.yielded in
    let w = zip_turn c.args.steps.now c.args.marks.now c.loop-s.yielded _ c.loop-s.s-iterator c.next.new.self c.next.result (search rules) (search rules) c.loop-s.yielded_by (c.in-Some.s, c.in-Some.marked) c.in-Some.is c.next.ensures.steps in
    c.cite.ensures p (search rules)
    ∙ ap (λ b. b || (c.in-Some.marked.now && asserted c.in-Some.s.now.reason p)) (c.loop-s.invariant p h)
    ∙ ap (λ b. covers c.args.steps.now c.args.marks.now n p || (b && asserted c.in-Some.s.now.reason p)) (w.3 false)
    ∙ ap (λ (s : Step). covers c.args.steps.now c.args.marks.now n p || (get_or c.args.marks.now n false && asserted s.reason p)) (w.2 _)
    ∙ sym (any_more n f) ∙ ap (λ (k : ℕ). covers c.args.steps.now c.args.marks.now k p) (sym (length_push c.loop-s.yielded _))
