use Rattle.std.proofs.Common.{sym, ◌∙◌, rules}
use Rattle.std.specs.Bool.{Decides}
use Rattle.std.proofs.lemmas.Bool.{true≢false}
use Rattle.congruence.specs.Equality.{Named}
use Rattle.equality.specs.Checks.{past_limit, not_lower, no_term}
use Rattle.equality.proofs.check.check.Goals as goal

pub returns-then-not-within_limits : goal.returns-then-not-within_limits
returns-then-not-within_limits c = past_limit (λ l. true≢false (sym (c.within_limits.ensures.1 l) ∙ c.if-not-within_limits.true))

pub returns-then-not-lower_arguments : goal.returns-then-not-lower_arguments
returns-then-not-lower_arguments c =
    not_lower
    (c.within_limits.ensures.0 c.if-not-within_limits.false)
    (λ h. true≢false (sym (c.lower_arguments.ensures.1 h) ∙ c.if-not-lower_arguments.true))

pub returns-then-not-all : goal.returns-then-not-all
returns-then-not-all c =
    let named : Decides c.all.result (Named c.args.terms.now c.args.claims.now) = search rules in
    no_term
    (c.within_limits.ensures.0 c.if-not-within_limits.false)
    (c.lower_arguments.ensures.0 c.if-not-lower_arguments.false)
    (λ h. true≢false (sym (named.1 h) ∙ c.if-not-all.true))
