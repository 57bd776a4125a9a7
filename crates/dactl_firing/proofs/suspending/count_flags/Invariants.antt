use Rattle.std.proofs.Common.{◌≡◌, ◌≤◌, take}
use Rattle.dactl_model.specs.Graphs.{node_at, flags}
use Rattle.dactl_firing.specs.Suspending.{arcs_in}
use Rattle.dactl_firing.proofs.suspending.count_flags.Given as goal

-- the flags so far, at most as many as the arcs so far
abbrev pub invariant-loop-place : goal.invariant-loop-place
invariant-loop-place l = record { so_far : l.count ≡ flags (take l.place (arcs_in (node_at l.store.graph l.node))); few : l.count ≤ l.place }
