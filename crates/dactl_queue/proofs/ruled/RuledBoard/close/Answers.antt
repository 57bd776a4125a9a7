use Rattle.dactl_queue.proofs.Accounts.{knows, moment_whole}
use Rattle.dactl_queue.proofs.ruled.RuledBoard.close.Goals as goal

pub len_as-requires-clause-rule : goal.len_as-requires-clause-rule
len_as-requires-clause-rule g c = knows _ _

pub returns : goal.returns
returns g c = let held = c.len_as.ensures.rule.1 in (held.0, held.1, moment_whole _ _ held.2 c.requires)
