use Rattle.std.proofs.Common.{◌≡◌, map, take}
use Rattle.dactl_validity.specs.Counting.{arcs_of}
use Rattle.dactl_contractum.specs.Drawing.{sketch_of}
use Rattle.dactl_contractum.proofs.contractum.arc_count.Given as goal

abbrev pub invariant-loop-sketch : goal.invariant-loop-sketch
invariant-loop-sketch l = l.count ≡ arcs_of (map sketch_of (take l.sketch-index l.made))
