use Rattle.std.proofs.Common.{◌≡◌, drop}
use Rattle.dactl_firing.specs.Waking.{woken_nodes}
use Rattle.dactl_firing.proofs.Woken.{IsWakening}
use Rattle.dactl_firing.proofs.waking.wake_all.Given as goal

-- with the rest of the wakes the nodes are as with all of them
abbrev pub invariant-loop-variable : goal.invariant-loop-variable
invariant-loop-variable l = record {
  nodes : woken_nodes l.bindings (drop l.variable-index l.wakes) 0 l.store.graph.nodes ≡ woken_nodes l.bindings l.wakes 0 l.initial.store.graph.nodes;
  root : l.store.graph.root ≡ l.initial.store.graph.root;
  versions : l.store.versions ≡ l.initial.store.versions;
  room : l.store.room ≡ l.initial.store.room;
  newest : l.store.newest ≡ l.initial.store.newest;
  wakening : IsWakening l.initial.store.graph.nodes l.store.graph.nodes l.woken.list;
  list_room : l.woken.room ≡ l.initial.woken.room;
}
