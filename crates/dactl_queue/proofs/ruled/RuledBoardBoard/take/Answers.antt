use Rattle.std.proofs.Common.{◌<◌, ℕ, sym, subst}
use Rattle.dactl_queue.proofs.Accounts.{takes, knows, share_some, take_alone}
use Rattle.dactl_queue.proofs.ruled.RuledBoardBoard.take.Goals as goal

pub pop_as-requires-clause-rule : goal.pop_as-requires-clause-rule
pop_as-requires-clause-rule g c = (takes _ _ (subst (λ (z : ℕ). 0 < z) (sym c.requires.1) (share_some c.args.self.now.hands)), knows _ _)

pub returns-clause-alone : goal.returns-clause-alone
returns-clause-alone g c one = take_alone _ _ _ (c.requires.2 one) c.pop_as.ensures.rule
