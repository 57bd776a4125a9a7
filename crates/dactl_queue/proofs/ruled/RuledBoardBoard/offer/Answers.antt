use Rattle.std.proofs.Common.{◌<◌, ℕ, sym, subst}
use Rattle.dactl_queue.proofs.Accounts.{share_some, put_alone}
use Rattle.dactl_queue.proofs.ruled.RuledBoardBoard.offer.Goals as goal

pub put-answer-requires-clause-part : goal.put-answer-requires-clause-part
put-answer-requires-clause-part g c = subst (λ (z : ℕ). 0 < z) (sym c.requires.hand.1) (share_some c.args.self.now.hands)

pub returns-then-is_err-clause-alone : goal.returns-then-is_err-clause-alone
returns-then-is_err-clause-alone g c one = put_alone _ _ _ _ _ (c.requires.hand.2 one) c.put-answer.ensures.rule
