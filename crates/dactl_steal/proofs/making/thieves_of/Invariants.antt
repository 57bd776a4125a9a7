use Rattle.std.proofs.Common.{◌≡◌, map, take}
use Rattle.crossbeam_deque.specs.Handles.{stealer_deque}
use Rattle.dactl_steal.specs.Making.{own_deque}
use Rattle.dactl_steal.proofs.making.thieves_of.Given as goal

abbrev pub invariant-loop-place : goal.invariant-loop-place
invariant-loop-place l = map stealer_deque l.thieves.items ≡ map own_deque (take l.place l.hands)
