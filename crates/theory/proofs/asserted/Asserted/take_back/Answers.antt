use Rattle.std.proofs.Common.{vec_items, sym, subst, arith}
use Rattle.theory.specs.Literals.{Proper}
use Rattle.theory.proofs.Claims.{proper_take}
use Rattle.theory.proofs.asserted.Asserted.take_back.Goals as goal

pub invariant_of-self : goal.invariant_of-self
invariant_of-self c =
    let a = c.args.self.now in
    record {
      room = omega (arith, c.truncate.ensures.capacity, a.room);
      proper = subst (Proper a.claims) (sym c.truncate.ensures.items) (proper_take a.claims c.args.k (vec_items a.literals) a.proper);
    }
