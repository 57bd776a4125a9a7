use Rattle.std.proofs.Common.{◌≡◌, ◌++◌, map, take}
use Rattle.dactl_contractum.specs.Drawing.{arc_of, made_in}
use Rattle.dactl_contractum.specs.Meant.{arc_meant}
use Rattle.dactl_contractum.proofs.contractum.Contractum.many_arcs.Given as goal

abbrev pub invariant-loop-arc : goal.invariant-loop-arc
invariant-loop-arc l = l.meant.items ≡ l.initial.meant.items ++ map (arc_meant l.variables (made_in l.self.drawing)) (map arc_of (take l.arc-index l.arcs))
