use Rattle.dactl_within.proofs.ByRules.{runs_by_rules}
use Rattle.dactl_within.proofs.laws.runs_by_rules.Goals as goal

pub returns : goal.returns
returns c = runs_by_rules
