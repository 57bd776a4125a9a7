use Rattle.std.proofs.Common.{◌<◌, length, slice_index, drop}
use Rattle.std.specs.List.{Contains}
use Rattle.dactl_model.specs.declared.graph.NodeId.{NodeId}
use Rattle.dactl_print.proofs.walk.forget.Given as goal

-- who still has a number is among the nodes that are left
abbrev pub invariant-loop-node : goal.invariant-loop-node
invariant-loop-node l = (n : NodeId) → n.number < length l.numbers → 0 < slice_index l.numbers n.number → Contains (drop l.node-index l.order) n
