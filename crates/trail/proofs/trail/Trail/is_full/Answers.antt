use Rattle.std.proofs.Common.{ℕ, eqb, vec_items, ap, ◌∙◌, arith}
use Rattle.std.proofs.lemmas.List.{length-reverse}
use Rattle.trail.specs.Trails.{trail_of}
use Rattle.trail.proofs.Kept.{full}
use Rattle.trail.proofs.trail.Trail.is_full.Goals as goal

pub returns : goal.returns
returns c =
    let a = c.args.self.now in
    ap (λ (k : ℕ). eqb k a.claims) (omega (arith, c.len.ensures, a.entries.ok.0, length-reverse (vec_items a.entries))) ∙ full a.claims (trail_of a) a.proper
