use denote.Param.Send.{sendable}
use Rattle.std.proofs.Crossing.{crosses}
use Rattle.dactl_shared.proofs.Crossing.{place_fields_send, store_sync}
use Rattle.dactl_workers.proofs.Crossing.{deciders_sync}
use Rattle.dactl_seats.proofs.crowd_tests.work_in_two.Goals as goal

pub join-requires-send-F : goal.join-requires-send-F
join-requires-send-F g c κs within = let r = c.type_bounds.sync-R in search (crosses, sendable, store_sync, deciders_sync, place_fields_send) depth 60 fits 20000

pub join-requires-send-A : goal.join-requires-send-A
join-requires-send-A g c κs within = search (crosses, sendable, place_fields_send) depth 60 fits 20000
