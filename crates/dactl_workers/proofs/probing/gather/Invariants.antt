use Rattle.std.proofs.Common.{◌≡◌, ◌-◌, All, length}
use Rattle.dactl_model.specs.declared.reading.Reading.{Reading}
use Rattle.dactl_shared.specs.Stores.{seen_of, program_of, SameCounts, WasShown}
use Rattle.dactl_workers.specs.Turns.{MayReadBelow, MayReadTargets, HasLooked, IsReadSince}
use Rattle.dactl_workers.proofs.probing.gather.Given as goal

abbrev pub invariant-loop-node : goal.invariant-loop-node
invariant-loop-node g l = record {
  looked : HasLooked l.store l.initial.seat l.seat;
  counts : SameCounts l.initial.seat l.seat;
  known : MayReadBelow l.store l.seat l.known;
  decisions : l.probe.decisions ≡ l.initial.probe.decisions;
  node : l.probe.node ≡ l.initial.probe.node;
  room : l.probe.room ≡ l.initial.probe.room;
  shown : All (WasShown l.store l.seat) l.probe.readings;
  since : All (IsReadSince (program_of l.store) (seen_of l.initial.seat) (seen_of l.seat)) l.probe.readings;
  targets : All (MayReadTargets l.store l.seat) l.probe.readings;
  passed : All (λ (r : Reading). g.G.Gate.passed_after_read l.gate l.seat.number) l.probe.readings;
}

abbrev pub decreases-loop-node : goal.decreases-loop-node
decreases-loop-node g l = l.probe.decisions.widest - length l.probe.readings
