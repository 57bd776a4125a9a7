use Rattle.std.proofs.Common.{rules, arith}
use Rattle.std.proofs.lemmas.Grind.{common_steps}
use denote.Param.Send.{sendable}
use Rattle.std.proofs.Crossing.{crosses}
use Rattle.dactl_shared.proofs.Crossing.{store_sync, place_fields_send}
use Rattle.dactl_workers.proofs.Crossing.{deciders_sync}
use Rattle.dactl_workers.specs.Work.{HasWorked}
use Rattle.dactl_workers.proofs.Pairs.{all_zip}
use Rattle.dactl_workers.proofs.farming.farm.Goals as goal

pub for_each_mut-requires-send-T : goal.for_each_mut-requires-send-T
for_each_mut-requires-send-T g c κs within = let h = c.type_bounds.send-B-Hand in search (crosses, sendable, place_fields_send) depth 30

pub for_each_mut-requires-sync-F : goal.for_each_mut-requires-sync-F
for_each_mut-requires-sync-F g c κs within = let b = c.type_bounds.sync-B in let d = c.type_bounds.sync-G in let e = c.type_bounds.sync-R in search (sendable, store_sync, deciders_sync) depth 30

pub returns : goal.returns
returns g c = record {
  each = all_zip (HasWorked (g.B.Board.fits c.args.board.now) g.B.Board.put g.B.Board.taken g.B.Board.back c.args.store.now) c.args.workers.now c.for_each_mut.new.s (search rules)
      (λ i d lt. let at = (c.for_each_mut.ensures i d lt).1 in grind (arith, common_steps));
}
