use Rattle.std.proofs.Common.{sym, ◌∙◌}
use Rattle.dactl_probe.proofs.Rules.{pattern_lost, conflict_lost, waits, matching, without_result}
use Rattle.dactl_probe.proofs.rule.find_rule.Goals as goal

pub returns-in-No : goal.returns-in-No
returns-in-No c = pattern_lost c.args.readings.now c.args.node c.args.rule.now (sym c.in-No.is ∙ c.look.ensures)

pub returns-then-is_consistent : goal.returns-then-is_consistent
returns-then-is_consistent c =
    waits c.args.readings.now c.args.node c.args.rule.now c.in-Unknown.need (sym c.in-Unknown.is ∙ c.look.ensures) (sym c.if-is_consistent.true ∙ c.is_consistent.ensures)

pub returns-else-is_consistent : goal.returns-else-is_consistent
returns-else-is_consistent c = conflict_lost c.args.readings.now c.args.node c.args.rule.now (sym c.if-is_consistent.false ∙ c.is_consistent.ensures)

pub returns-then-not-is_consistent : goal.returns-then-not-is_consistent
returns-then-not-is_consistent c = conflict_lost c.args.readings.now c.args.node c.args.rule.now (sym c.if-not-is_consistent.true ∙ c.is_consistent-in-Yes.ensures)

pub returns-then-has_result : goal.returns-then-has_result
returns-then-has_result c =
    matching c.args.wide c.args.readings.now c.args.node c.args.rule.now (sym c.in-Yes.is ∙ c.look.ensures) (sym c.if-not-is_consistent.false ∙ c.is_consistent-in-Yes.ensures) (c.has_result.ensures.0 c.if-has_result.true)

pub returns-else-has_result : goal.returns-else-has_result
returns-else-has_result c =
    without_result c.args.wide c.args.readings.now c.args.node c.args.rule.now (sym c.in-Yes.is ∙ c.look.ensures) (λ has. let clash = sym c.if-has_result.false ∙ c.has_result.ensures.1 has in cc)
