use Rattle.std.proofs.Common.{sym, ◌∙◌}
use Rattle.dactl_model.specs.Readings.{told}
use Rattle.dactl_probe.proofs.Pairs.{no_conflict-is_first}
use Rattle.dactl_probe.proofs.binding.has_no_conflict.Goals as goal

pub returns : goal.returns
returns c = c.agrees.ensures ∙ sym (no_conflict-is_first (told c.args.readings.now c.args.pattern.now c.args.node).pairs)
