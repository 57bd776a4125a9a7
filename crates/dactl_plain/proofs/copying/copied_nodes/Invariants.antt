use Rattle.std.proofs.Common.{◌≡◌, take}
use Rattle.dactl_plain.proofs.copying.copied_nodes.Given as goal

-- the nodes so far are copied
abbrev pub invariant-loop-node : goal.invariant-loop-node
invariant-loop-node l = l.copy ≡ take l.node-index l.nodes
