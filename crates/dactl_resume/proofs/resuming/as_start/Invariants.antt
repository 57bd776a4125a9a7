use Rattle.std.proofs.Common.{◌≡◌, map, take}
use Rattle.dactl_resume.specs.Resumed.{fresh_of}
use Rattle.dactl_resume.proofs.resuming.as_start.Given as goal

abbrev pub invariant-loop-node : goal.invariant-loop-node
invariant-loop-node l = l.fresh.items ≡ map fresh_of (take l.node-index l.nodes)
