use Rattle.std.proofs.Common.{◌≡◌, ◌+◌, subst, arith}
use Rattle.equality.specs.Logs.{Renamed}
use Rattle.equality.proofs.Renaming.{renamed_none, renamed_more, still_wide}
use Rattle.equality.proofs.closure.rename.Goals as goal

pub loop-t-init : goal.loop-t-init
loop-t-init c = record {
  renamed = renamed_none c.args.rows.now c.args.k c.args.high c.args.low;
  wide = c.told-rows (c.args.k + 1) c.requires.next;
}

pub loop-t-preserved : goal.loop-t-preserved
loop-t-preserved c =
    let i = c.loop-t.invariant in
    record {
      renamed = renamed_more c.args.rows.now c.loop-t.rows c.args.k c.loop-t.t c.args.high c.args.low c.renamed.result c.requires.next
          (omega (arith, i.wide, c.loop-t-test.true, c.requires.few)) c.renamed.ensures i.renamed;
      wide = still_wide c.args.rows.now c.loop-t.rows c.args.k c.loop-t.t c.args.high c.args.low c.renamed.result c.requires.next i.renamed i.wide;
    }

pub returns : goal.returns
returns c =
    subst (λ m. Renamed c.args.rows.now c.loop-t.rows c.args.k m c.args.high c.args.low)
    (let e : c.loop-t.t ≡ c.args.m = omega (arith, c.loop-t-test.false, c.loop-t.auto.t-end) in e) c.loop-t.invariant.renamed
