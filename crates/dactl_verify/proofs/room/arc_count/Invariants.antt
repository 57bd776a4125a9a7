use Rattle.std.proofs.Common.{◌≡◌, ◌+◌, drop}
use Rattle.dactl_model.specs.Programs.{fresh_arcs}
use Rattle.dactl_verify.proofs.room.arc_count.Given as goal

-- the arcs so far, and then those of the other nodes
abbrev pub invariant-loop-node : goal.invariant-loop-node
invariant-loop-node l = l.count + fresh_arcs (drop l.node-index l.fresh) ≡ fresh_arcs l.fresh
