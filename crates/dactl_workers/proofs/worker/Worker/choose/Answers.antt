use Rattle.std.proofs.Common.{sym, subst}
use Rattle.dactl_workers.specs.Turns.{HasGone}
use Rattle.dactl_workers.proofs.Gone.{gone_on, looked_gone}
use Rattle.dactl_workers.proofs.worker.Worker.choose.Goals as goal

pub returns-clause-gone : goal.returns-clause-gone
returns-clause-gone g c = let a = c.take_there.new.self in let b = c.find_active.new.self in let e = c.find_active.ensures in let s = c.args.store.now in
    gone_on g.B.Board.put g.B.Board.taken g.B.Board.back s c.args.self.now a b c.take_there.ensures.gone
    (subst (HasGone g.B.Board.put g.B.Board.taken g.B.Board.back s a) (sym e.same) (looked_gone g.B.Board.put g.B.Board.taken g.B.Board.back s a b.seat a.footprint a.woken b.known e.looked e.counts))
