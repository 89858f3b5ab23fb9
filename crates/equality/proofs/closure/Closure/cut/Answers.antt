use Rattle.std.proofs.Common.{arith}
use Rattle.equality.proofs.Growing.{cut}
use Rattle.equality.proofs.closure.Closure.cut.Goals as goal

pub invariant_of-self : goal.invariant_of-self
invariant_of-self c =
    let s = c.args.self.now in
    let w = cut s.terms.records.now s.steps.items c.truncate.new.self.items s.rows.items c.args.k c.truncate.ensures.items c.requires s.formed s.tabled in
    record {
      formed = w.formed;
      few = omega (arith, w.long, c.requires, s.few);
      rows_long = s.rows_long;
      tabled = w.tabled;
      own = s.own;
      room = omega (arith, s.room, c.truncate.ensures.capacity);
    }
