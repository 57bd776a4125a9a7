use Rattle.std.proofs.Common.{arith}
use Rattle.dactl_queue.proofs.Accounts.{lends_one}
use Rattle.dactl_queue.proofs.ruled.RuledBoard.deal.Goals as goal

pub another-pass-requires-clause-rule : goal.another-pass-requires-clause-rule
another-pass-requires-clause-rule c = let i = c.loop.invariant in lends_one _ _ (omega (arith, i.parts)) i.put i.taken
