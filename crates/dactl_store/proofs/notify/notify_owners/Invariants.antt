use Rattle.std.proofs.Common.{◌≡◌, length}
use Rattle.std.specs.Option.{IfSome}
use Rattle.dactl_arcs.specs.Pool.{LeadsTo, arcs_into, rest_of_walk}
use Rattle.dactl_store.proofs.Notified.{IsNotifying}
use Rattle.dactl_store.proofs.notify.notify_owners.Given as goal

-- the owners along the rest of the walk are still to be notified
abbrev pub invariant-loop-at : goal.invariant-loop-at
invariant-loop-at l = record {
  leads : IfSome l.at (LeadsTo l.arcs l.target);
  notifying : IsNotifying l.arcs.arcs (arcs_into l.arcs l.target) l.initial.nodes (rest_of_walk l.at (arcs_into l.arcs l.target)) l.nodes l.woken.list;
  list_room : l.woken.room ≡ l.initial.woken.room;
}

abbrev pub decreases-loop-at : goal.decreases-loop-at
decreases-loop-at l = length (rest_of_walk l.at (arcs_into l.arcs l.target))
