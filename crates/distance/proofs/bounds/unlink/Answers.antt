use Rattle.std.proofs.Common.{◌-◌, arith}
use Rattle.distance.proofs.Indexing.{heads_back}
use Rattle.distance.proofs.bounds.unlink.Goals as goal

pub loop-q-preserved : goal.loop-q-preserved
loop-q-preserved c =
    let f : _ = c.requires.named (c.loop-q.q - 1) (omega (arith, c.loop-q-test.true, c.loop-q.auto.q)) in
    let back = heads_back c.args.bounds.now c.loop-q.q c.loop-q.heads c.args.nexts.now (omega (arith, c.loop-q-test.true)) c.loop-q.auto.q c.loop-q.invariant.0 c.requires.nexts
    (omega (arith, f.1, c.loop-q.auto.heads)) in
    (rw (c.from.ensures) back, omega (arith, c.loop-q-test.true))
