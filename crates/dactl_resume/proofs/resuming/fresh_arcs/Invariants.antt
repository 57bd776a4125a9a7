use Rattle.std.proofs.Common.{◌≡◌, map, take}
use Rattle.dactl_resume.specs.Resumed.{fresh_arc_of}
use Rattle.dactl_resume.proofs.resuming.fresh_arcs.Given as goal

abbrev pub invariant-loop-arc : goal.invariant-loop-arc
invariant-loop-arc l = l.fresh.items ≡ map fresh_arc_of (take l.arc-index l.arcs)
