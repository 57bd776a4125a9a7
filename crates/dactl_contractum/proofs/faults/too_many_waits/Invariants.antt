use Rattle.std.proofs.Common.{◌≡◌, ◌++◌, map, take}
use Rattle.std.specs.List.{flat_map}
use Rattle.dactl_contractum.specs.Drawing.{sketch_of}
use Rattle.dactl_contractum.specs.Told as told
use Rattle.dactl_contractum.proofs.faults.too_many_waits.Given as goal

abbrev pub invariant-loop-sketch : goal.invariant-loop-sketch
invariant-loop-sketch l = l.faults.items ≡ l.initial.faults.items ++ flat_map told.waits_at (map sketch_of (take l.sketch-index l.made))
