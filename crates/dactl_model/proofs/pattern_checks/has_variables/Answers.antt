use Rattle.std.proofs.Common.{sym, ◌∙◌}
use Rattle.dactl_model.proofs.Variables.{bound_below, passes_below}
use Rattle.dactl_model.proofs.pattern_checks.has_variables.Goals as goal

pub returns-then-variables_below : goal.returns-then-variables_below
returns-then-variables_below c = (
  λ e v. (bound_below c.args.count v c.args.pattern.now (sym c.variables_below.ensures ∙ c.if-variables_below.true), c.binds_each.ensures.0 e v),
  λ has. c.binds_each.ensures.1 (λ v. (has v).1),
)

pub returns-else-variables_below : goal.returns-else-variables_below
returns-else-variables_below c = (λ e. cc, λ has. c.variables_below.ensures ∙ passes_below c.args.count c.args.pattern.now (λ v. (has v).0))
