use Rattle.std.proofs.Common.{None, replicate, refl, arith}
use Rattle.trail.proofs.Kept.{Kept, kept_none, kept_as}
use Rattle.trail.proofs.trail.Trail.new.Goals as goal

pub invariant_of-result : goal.invariant_of-result
invariant_of-result c =
    let k : Kept c.min-claims.result c.in_ok-entries.entries.items c.in_ok-levels.levels.items (replicate 256 None) =
    kept_as c.in_ok-entries.ensures.items c.in_ok-levels.ensures.items refl (kept_none c.min-claims.result 256) in
    record {
      few = omega (arith, c.min-claims.ensures);
      room = omega (arith, c.in_ok-entries.ensures.exact);
      level_room = omega (arith, c.in_ok-levels.ensures.exact);
      level_each = k.level_each;
      proper = k.proper;
      leveled = k.leveled;
      placed = k.placed;
    }
