use Rattle.std.proofs.Common.{rules, arith}
use Rattle.dactl_turn.proofs.Steps.{stays}
use Rattle.dactl_turn.proofs.lock.Turn.sleep.Goals as goal

pub store-requires : goal.store-requires
store-requires g c = let bell = c.bell_of-bell.ensures.bell.0 in (
  c.requires.own,
  search rules,
  stays g.S.Booked.base g.S.Booked.entries g.S.Booked.closed _ _ _ _ _ (λ _. 1) (λ e. omega arith) (λ e. omega arith),
)
