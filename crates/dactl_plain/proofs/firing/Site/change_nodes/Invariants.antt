use Rattle.std.proofs.Common.{◌≡◌, ◌++◌, length, take, drop}
use Rattle.dactl_plain.specs.Sites.{old_nodes_of}
use Rattle.dactl_plain.proofs.firing.Site.change_nodes.Given as goal

-- the nodes so far are changed
abbrev pub invariant-loop-number : goal.invariant-loop-number
invariant-loop-number l = record {
  long : length l.nodes ≡ l.number-end;
  changed : take l.number l.nodes ++ old_nodes_of l.self l.number (drop l.number l.nodes) ≡ old_nodes_of l.self 0 l.initial.nodes;
}
