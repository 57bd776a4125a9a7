use Rattle.std.proofs.Common.{◌≤◌}
use Rattle.dactl_queue.proofs.tests.offer_and_take.Given as goal

abbrev pub invariant-loop-round : goal.invariant-loop-round
invariant-loop-round g l = record {
  fits : g.B.Board.fits l.board l.hand;
  back : g.B.Board.back l.hand ≤ l.round;
}
