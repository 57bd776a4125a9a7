use Rattle.dactl_workers.specs.Turns.{IsSeated, IsCounted, HasFootprint, HasGone}
use Rattle.dactl_workers.proofs.worker.Worker.work.Given as goal

abbrev pub invariant-loop : goal.invariant-loop
invariant-loop g l = record {
  footprint : HasFootprint l.deciders.widest l.self;
  seated : IsSeated l.store l.self;
  counted : IsCounted (g.B.Board.fits l.board) g.B.Board.back l.store l.self;
  gone : HasGone g.B.Board.put g.B.Board.taken g.B.Board.back l.store l.initial.self l.self;
}
