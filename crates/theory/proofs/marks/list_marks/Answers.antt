use Rattle.std.proofs.Common.{false, length, get_or}
use Rattle.std.proofs.lemmas.Bool.{le-ltb}
use Rattle.theory.proofs.Positions.{partly_as, partly_put, partly_skip, partly_end}
use Rattle.theory.proofs.marks.list_marks.Goals as goal
use Rattle.theory.proofs.marks.list_marks.Goals.{then-marked, else-marked}

pub loop-p-preserved : goal.loop-p-preserved
loop-p-preserved c =
    elim c.if-marked.branch [
      | then-marked w ↦
          partly_as _ _ _ (λ p. get_or c.args.marks.now p false) _ _ _ _ _ w.place-is w.n-is
          (partly_put _ c.loop-p.p _ (λ p. get_or c.args.marks.now p false) c.args.place.now c.loop-p.place c.loop-p.n c.loop-p-test.true c.if-place-marks.false
          w.if-marked.true c.loop-p.invariant)
      | else-marked w ↦
          partly_as _ _ _ (λ p. get_or c.args.marks.now p false) _ _ _ _ _ w.place-is w.n-is
          (partly_skip _ c.loop-p.p _ (λ p. get_or c.args.marks.now p false) c.args.place.now c.loop-p.place c.loop-p.n c.loop-p-test.true
          w.if-marked.false c.loop-p.invariant)
    ]

pub returns : goal.returns
returns c =
    let w = partly_end _ c.loop-p.p _ (λ p. get_or c.args.marks.now p false) _ c.loop-p.place c.loop-p.n c.loop-p-test.false c.if-place-marks.false c.loop-p.auto.p-end c.loop-p.invariant in
    let few = le-ltb 128 (length c.args.marks.now) c.if-marks-gt128.false in
    let room = le-ltb (length c.args.place.now) (length c.args.marks.now) c.if-place-marks.false in
    record { says = rw (few, room, w.told); place = rw (few, room, w.place) }
