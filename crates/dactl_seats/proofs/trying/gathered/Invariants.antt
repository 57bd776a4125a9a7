use Rattle.std.proofs.Common.{◌≡◌, ◌-◌, All, length}
use Rattle.dactl_shared.specs.Stores.{WorksFor, MayRead, WasShown}
use Rattle.dactl_workers.specs.Turns.{MayReadTargets}
use Rattle.dactl_seats.proofs.trying.gathered.Given as goal

abbrev pub invariant-loop-node : goal.invariant-loop-node
invariant-loop-node g l = record {
  own : WorksFor l.store l.seat;
  decisions : l.probe.decisions ≡ l.initial.probe.decisions;
  node : MayRead l.store l.seat l.probe.node;
  shown : All (WasShown l.store l.seat) l.probe.readings;
  targets : All (MayReadTargets l.store l.seat) l.probe.readings;
}

abbrev pub decreases-loop-node : goal.decreases-loop-node
decreases-loop-node g l = l.probe.decisions.widest - length l.probe.readings
