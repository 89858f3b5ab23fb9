use Rattle.std.proofs.Common.{◌≡◌, ◌∙◌, [], ◌∷◌, ◌++◌, length, get_or, vec_items, sym, ap, subst, arith}
use Rattle.theory.specs.Members.{meaning, meaning_at}
use Rattle.rules.specs.States.{opened, says, leaves}
use Rattle.rules.specs.Rules.{judge}
use Rattle.table.specs.Tables.{state_of}
use Rattle.history.specs.Fits.{within, fit_over}
use Rattle.history.specs.Replays.{judged_as}
use Rattle.history.proofs.Playing.{Playing, playing_start, playing_step, playing_end, next_judged}
use Rattle.history.proofs.Law.{read_as, law_holds}
use Rattle.history.proofs.played.replay.Goals as goal

pub loop-step-init : goal.loop-step-init
loop-step-init g c =
    let M = meaning g.T.Theory c.args.theory in
    let s = state_of c.begin-history.result.table in
    let place = c.args.place.now in
    let steps = judged_as (length place) c.args.steps.now in
    let new = subst (λ t. state_of t ≡ opened (state_of t).book c.args.allowance) (sym c.begin-history.ensures.table) c.in-Ok.ensures.opened in (
      c.begin-history.ensures.shape,
      omega (arith, c.in-Ok-with_capacity.ensures.capacity),
      subst (λ told. Playing M s.book c.args.allowance steps place s told place 0) (sym c.in-Ok-with_capacity.ensures.items) (playing_start M c.args.allowance steps place s new),
    )

pub push_reserved-requires : goal.push_reserved-requires
push_reserved-requires g c = omega (arith, c.loop-step.invariant.1, c.loop-step.invariant.2.counted, c.loop-step-test.true, c.loop-step.answers.ok.0)

pub loop-step-preserved : goal.loop-step-preserved
loop-step-preserved g c =
    let M = meaning g.T.Theory c.args.theory in
    let s = state_of c.loop-step.history.table in
    let place = c.loop-step.place in
    let i = c.loop-step.step-index in
    let x = get_or c.args.steps.now i _ in (
      c.step.ensures.judged.shape ∙ c.loop-step.invariant.0,
      omega (arith, c.push_reserved.ensures.capacity, c.loop-step.invariant.1),
      playing_step M (judged_as (length c.args.place.now) c.args.steps.now) c.args.place.now s (state_of c.step.new.self.table)
          (vec_items c.loop-step.answers) (vec_items c.push_reserved.new.self) place c.step.new.place i (within (length c.args.place.now) x)
          (next_judged (length c.args.place.now) c.args.steps.now i _ c.loop-step-test.true)
          (c.step.ensures.judged.state ∙ ap (λ h. leaves s (judge (meaning_at g.T.Theory h) s (within (length place) x))) c.loop-step.invariant.0
          ∙ ap (λ n. leaves s (judge M s (within n x))) c.loop-step.invariant.2.long)
          (c.push_reserved.ensures.items ∙ ap (λ r. vec_items c.loop-step.answers ++ r ∷ [])
          (c.step.ensures.judged.says ∙ ap (λ h. says (judge (meaning_at g.T.Theory h) s (within (length place) x))) c.loop-step.invariant.0
          ∙ ap (λ n. says (judge M s (within n x))) c.loop-step.invariant.2.long))
          (c.step.ensures.place ∙ ap (λ h. fit_over (meaning_at g.T.Theory h) s (within (length place) x) place) c.loop-step.invariant.0
          ∙ ap (λ n. fit_over M s (within n x) place) c.loop-step.invariant.2.long)
          c.step.auto.place
          c.loop-step.invariant.2,
    )

pub returns-clause-law : goal.returns-clause-law
returns-clause-law g c =
    let book = ap (λ t. (state_of t).book) (sym c.begin-history.ensures.table) ∙ sym c.loop-step.invariant.2.book in
    let read = read_as c.claims.ensures book c.in-Ok.ensures.reads in (
      (_, read.0),
      law_holds c.args.theory c.args.row.now c.args.allowance c.args.steps.now c.args.place.now _ _ c.loop-step.history (g.met.T.Theory.lawful c.args.theory) c.loop-step.invariant.0 read.0 read.1
          (playing_end _ c.args.steps.now (omega (arith, c.loop-step-test.false)) c.loop-step.invariant.2),
    )

pub returns-clause-plays : goal.returns-clause-plays
returns-clause-plays g c =
    let book = ap (λ t. (state_of t).book) (sym c.begin-history.ensures.table) ∙ sym c.loop-step.invariant.2.book in
    let read = read_as c.claims.ensures book c.in-Ok.ensures.reads in
    let p = playing_end _ c.args.steps.now (omega (arith, c.loop-step-test.false)) c.loop-step.invariant.2 in
    record {
      shape = c.loop-step.invariant.0;
      formed = read.0;
      book = read.1;
      ran = record { state = p.state; answers = p.answered; place = p.filled };
    }
