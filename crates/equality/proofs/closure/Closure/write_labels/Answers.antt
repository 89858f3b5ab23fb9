use Rattle.std.proofs.Common.{◌≡◌, ℕ, ◌<◌, List, [], length, get_or, ℤ, pos, refl, ap, ◌∙◌, subst, arith, w64, SFits, rules}
use Rattle.std.proofs.lemmas.Int.{to_z-of_z}
use Rattle.std.proofs.lemmas.List.{get_or_default}
use Rattle.congruence.specs.Merges.{label}
use Rattle.equality.specs.Logs.{log, label_at}
use Rattle.equality.proofs.Writing.{Front, front_none, front_more, front_all}
use Rattle.equality.proofs.closure.Closure.write_labels.Goals as goal
use Rattle.equality.proofs.closure.Closure.write_labels.Goals.{After-index-row}

-- the row that is read has the labels
read : (c : After-index-row) (t : ℕ) → t < 256 → get_or c.index-row.result.now t 0 ≡ label (log c.args.self.now.steps.items) t
read c t few =
    let s = c.args.self.now in
    ap (λ (row : List ℕ). get_or row t 0) (c.index-row.ensures ∙ get_or_default s.rows.items c.merges.result _ [] (omega (arith, c.merges.ensures, s.few, s.rows_long)))
    ∙ s.tabled c.merges.result t (omega (arith, c.merges.ensures)) few ∙ ap (λ (n : ℕ). label_at s.steps.items n t) c.merges.ensures

pub loop-t-init : goal.loop-t-init
loop-t-init c = front_none c.args.place.now _

pub loop-t-preserved : goal.loop-t-preserved
loop-t-preserved c =
    let s = c.args.self.now in
    let fits : SFits w64 c.from.result = search rules in
    let d : After-index-row = (goal.at.loop-t-preserved c).After-index-row in
    front_more c.args.place.now c.loop-t.place c.loop-t.t c.loop-t.t _ (λ t. pos (label (log s.steps.items) t)) refl
    (omega (arith, c.loop-t-test.true, c.requires, c.loop-t.auto.place))
    (to_z-of_z w64 c.from.result fits ∙ c.from.ensures ∙ ap pos (read d c.loop-t.t (omega (arith, c.loop-t-test.true, s.terms.few))))
    c.loop-t.invariant

pub returns : goal.returns
returns c =
    let f : ℕ → ℤ = λ t. pos (label (log c.args.self.now.steps.items) t) in
    front_all c.args.place.now c.loop-t.place (length c.args.self.now.terms.records.now) f
    (subst (λ (n : ℕ). Front c.args.place.now c.loop-t.place n f) (let e : c.loop-t.t ≡ length c.args.self.now.terms.records.now = omega (arith, c.loop-t-test.false, c.loop-t.auto.t-end) in e) c.loop-t.invariant)
