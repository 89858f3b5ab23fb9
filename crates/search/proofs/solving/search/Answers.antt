use Rattle.std.proofs.Common.{refl, ◌∙◌, subst, arith}
use Rattle.theory.specs.Members.{meaning}
use Rattle.search.specs.Solved.{Short}
use Rattle.search.proofs.Finding.{found_by, too_short, left_same, handed_back, out_of_memory}
use Rattle.search.proofs.solving.search.Goals as goal

pub returns-then-place-terms : goal.returns-then-place-terms
returns-then-place-terms g c =
    let M = meaning g.T.Theory c.args.theory in
    record {
      why = too_short M c.args.task.row.now c.args.place.now c.short_place-why.result (omega arith) (subst (λ n. Short n c.args.task.row.now c.short_place-why.result) c.claims.ensures c.short_place-why.ensures);
      theory = left_same g.T.Theory c.args.theory c.short_place-why.result;
      place_is = refl;
    }

pub returns-in-Err : goal.returns-in-Err
returns-in-Err g c = handed_back g.T.Theory c.args.theory c.args.task.row.now c.args.place.now c.in-Err.returned c.in-Err.ensures

pub returns-in_default : goal.returns-in_default
returns-in_default g c =
    out_of_memory g.T.Theory c.args.theory c.args.task.row.now c.args.place.now c.without_memory.result c.in-Ok.history c.in-Ok.ensures c.without_memory.ensures.why c.without_memory.ensures.shape

pub returns-in_default-settle : goal.returns-in_default-settle
returns-in_default-settle g c =
    let b = out_of_memory g.T.Theory c.args.theory c.args.task.row.now c.args.place.now c.without_memory-in_default-settle.result c.in-Ok.history c.in-Ok.ensures
    c.without_memory-in_default-settle.ensures.why (c.without_memory-in_default-settle.ensures.shape ∙ c.settle.ensures.shape) in
    record { why = b.why; theory = b.theory; place_is = c.in_default-settle.ensures.err }

pub returns : goal.returns
returns g c =
    let F = found_by g.T.Theory c.args.theory c.args.task.row.now c.args.task.allowance c.args.place.now c.settle.new.place (g.R.Recorder.seen c.args.recorder.now)
    (g.R.Recorder.seen c.settle.new.recorder) c.in-Ok-settle.outcome c.in-Ok.history c.settle.new.history c.in-Ok.ensures c.settle.ensures.shape c.in-Ok-settle.ensures.ok
    c.stands.ensures.state in
    record {
      shape = c.into_theory.ensures.shape ∙ (c.settle.ensures.shape ∙ c.in-Ok.ensures.shape);
      found = rw c.count-steps.ensures F;
    }
