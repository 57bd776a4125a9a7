use Rattle.std.proofs.Common.{◌≡◌, map, take}
use Rattle.dactl_arcs.specs.Kept.{IsKept}
use Rattle.dactl_arcs.specs.Slots.{in_slots}
use Rattle.dactl_arcs.specs.Moves.{landed}
use Rattle.dactl_arcs.proofs.pool.land.Given as goal

-- the arcs of the pairs so far have come there
abbrev pub invariant-loop-place : goal.invariant-loop-place
invariant-loop-place l = IsKept l.initial.lists l.lists × (l.lists.arcs ≡ map (landed 0 (take l.place (in_slots l.waits l.moves))) l.initial.lists.arcs) × (l.lists.changed ≡ l.initial.lists.changed) × (l.lists.newest ≡ l.initial.lists.newest)
