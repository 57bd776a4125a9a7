use Rattle.std.proofs.Common.{◌≡◌, ◌+◌, take}
use Rattle.dactl_model.specs.Programs.{fresh_arcs}
use Rattle.dactl_model.proofs.contractum_checks.has_few_arcs.Given as goal

abbrev pub invariant-loop-node : goal.invariant-loop-node
invariant-loop-node l = fresh_arcs (take l.node-index l.fresh) + l.left ≡ 2147483647
