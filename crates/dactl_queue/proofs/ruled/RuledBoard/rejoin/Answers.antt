use Rattle.dactl_queue.proofs.Accounts.{merges}
use Rattle.dactl_queue.proofs.ruled.RuledBoard.rejoin.Goals as goal

pub absorb-requires-clause-rule : goal.absorb-requires-clause-rule
absorb-requires-clause-rule c = merges _ _ _ _
