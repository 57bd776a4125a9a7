use Rattle.dactl_within.proofs.ByRules.{steps_by_rules}
use Rattle.dactl_within.proofs.laws.steps_by_rules.Goals as goal

pub returns : goal.returns
returns c = steps_by_rules
