use Rattle.dactl_queue.proofs.Accounts.{lends_all}
use Rattle.dactl_queue.proofs.ruled.RuledBoard.new.Goals as goal

pub another-pass-requires-clause-rule : goal.another-pass-requires-clause-rule
another-pass-requires-clause-rule c = lends_all _ _
