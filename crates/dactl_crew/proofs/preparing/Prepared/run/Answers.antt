use denote.Param.Send.{sendable}
use Rattle.dactl_queue.proofs.Crossing.{board_sync}
use Rattle.dactl_steal.proofs.Crossing as steal
use Rattle.dactl_crew.proofs.preparing.Prepared.run.Goals as goal

pub run-requires-sync-B : goal.run-requires-sync-B
run-requires-sync-B g c κs within = search (sendable, board_sync) depth 20

pub run-requires-in-Steal-sync-B : goal.run-requires-in-Steal-sync-B
run-requires-in-Steal-sync-B g c κs within = search (sendable, steal.board_sync) depth 20
