use denote.Param.Send.{sendable}
use Rattle.dactl_queue.proofs.Crossing.{board_sync, hand_send}
use Rattle.dactl_queue.proofs.tests.Worker.TheSendSync as worker
use Rattle.dactl_queue.proofs.tests.in_four.Goals as goal

pub join-requires-send-F : goal.join-requires-send-F
join-requires-send-F g c κs within = let r = c.type_bounds.sync-R in search (sendable, board_sync, worker.the_send, hand_send) depth 40
