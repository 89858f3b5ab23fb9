use Rattle.std.proofs.Common.{length, ap, arith}
use Rattle.std.proofs.lemmas.List.{length-map}
use Rattle.theory.specs.Asserted.{literals_of}
use Rattle.theory.proofs.Lists.{taken}
use Rattle.difference.specs.Distance.{bound_of}
use Rattle.distance.proofs.state.calls.DistanceTheory.assert.Goals as goal

pub add-requires-clause-room : goal.add-requires-clause-room
add-requires-clause-room c =
    let s = c.args.self.now in
    let p = c.in_ok-push.ensures in
    let w = taken s.list c.push.new.self c.args.l p.claims p.says p.list in
    omega (arith, w.room, s.list_claims, s.most, ap length s.says, length-map (literals_of s.list) (bound_of s.claims.now))
