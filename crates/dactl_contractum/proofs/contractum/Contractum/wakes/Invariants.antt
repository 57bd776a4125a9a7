use Rattle.std.proofs.Common.{◌≡◌, map, take}
use Rattle.std.specs.List.{filter_map}
use Rattle.dactl_contractum.specs.Drawing.{mention_of}
use Rattle.dactl_contractum.specs.Meant.{wake_of}
use Rattle.dactl_contractum.proofs.contractum.Contractum.wakes.Given as goal

abbrev pub invariant-loop-mention : goal.invariant-loop-mention
invariant-loop-mention l = l.wakes.items ≡ filter_map (wake_of l.variables) (map mention_of (take l.mention-index l.mention-items))
