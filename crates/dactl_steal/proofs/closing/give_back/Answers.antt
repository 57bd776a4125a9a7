use Rattle.dactl_queue.proofs.Accounts.{merges}
use Rattle.dactl_steal.proofs.closing.give_back.Goals as goal

pub absorb-requires-clause-rule : goal.absorb-requires-clause-rule
absorb-requires-clause-rule c = merges _ _ _ _
