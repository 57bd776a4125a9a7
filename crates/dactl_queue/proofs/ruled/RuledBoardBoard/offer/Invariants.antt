use Rattle.crossbeam_queue.specs.Passes.{ruled_capacity}
use Rattle.dactl_queue.proofs.ruled.RuledBoardBoard.offer.Given as goal

abbrev pub ghosts-put : goal.ghosts-put
ghosts-put g a = record { room = ruled_capacity a.queue.now }
