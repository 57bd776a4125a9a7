use Rattle.std.proofs.Common.{◌≡◌, ◌++◌, length, take, drop}
use Rattle.dactl_model.specs.Noting.{noted_nodes}
use Rattle.dactl_plain.proofs.noting.change_nodes.Given as goal

-- the nodes so far are changed
abbrev pub invariant-loop-number : goal.invariant-loop-number
invariant-loop-number l = record {
  long : length l.nodes ≡ l.number-end;
  changed : take l.number l.nodes ++ noted_nodes l.noting l.number (drop l.number l.nodes) ≡ noted_nodes l.noting 0 l.initial.nodes;
}
