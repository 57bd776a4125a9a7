use Rattle.dactl_workers.proofs.Offers.{offered_on, one_more}
use Rattle.dactl_workers.proofs.offering.offer_all.Goals as goal

pub loop-node-preserved : goal.loop-node-preserved
loop-node-preserved g c = let o = c.offer_one-refused.ensures in record {
  hand = o.hand;
  offered = one_more g.B.Board.put g.B.Board.taken g.B.Board.back _ _ _ _ _ _ c.loop-node-test.true
      (offered_on g.B.Board.put g.B.Board.taken g.B.Board.back _ _ _ _ _ _ _ c.loop-node.invariant.offered o.offered);
}
