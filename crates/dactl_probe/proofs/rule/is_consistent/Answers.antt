use Rattle.std.proofs.Common.{sym, ◌∙◌}
use Rattle.dactl_probe.proofs.Ordering.{consistent}
use Rattle.dactl_probe.proofs.rule.is_consistent.Goals as goal

pub returns-then-orderly : goal.returns-then-orderly
returns-then-orderly c = c.if-orderly.true ∙ sym (consistent c.args.readings.now c.args.node c.args.rule.now (c.requires c.if-orderly.true))
