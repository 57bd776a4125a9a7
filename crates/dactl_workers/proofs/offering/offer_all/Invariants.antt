use Rattle.std.proofs.Common.{take}
use Rattle.dactl_workers.specs.Turns.{IsOffered}
use Rattle.dactl_workers.proofs.offering.offer_all.Given as goal

abbrev pub invariant-loop-node : goal.invariant-loop-node
invariant-loop-node g l = record {
  hand : g.B.Board.fits l.board l.hand;
  offered : IsOffered g.B.Board.put g.B.Board.taken g.B.Board.back l.initial.hand l.hand (take l.node-index l.nodes) l.refused;
}
