use Rattle.dactl_queue.specs.Boards.{HandFits}
use Rattle.dactl_queue.proofs.tests.take_rest.Given as goal

abbrev pub invariant-loop : goal.invariant-loop
invariant-loop g l = HandFits l.board l.worker.hand
