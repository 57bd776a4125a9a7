use Rattle.std.proofs.Common.{◌≡◌, ◌+◌, ◌≤◌}
use Rattle.dactl_model.specs.Graphs.{IsWellFormed}
use Rattle.dactl_store.specs.Redirecting.{IsLatest}
use Rattle.dactl_layers.proofs.store_tests.entries_alike.Given as goal

-- the store has the graph, no version is greater than the next, and there is room for all woken nodes
abbrev pub invariant-loop-done : goal.invariant-loop-done
invariant-loop-done l = IsWellFormed l.graph × (l.stored.store.graph ≡ l.graph) × IsLatest (l.done + 1) l.stored.store × (l.stored.store.room.nodes ≤ l.stored.woken.room)
