use Rattle.std.proofs.Common.{◌≡◌, ◌++◌, take}
use Rattle.std.specs.List.{flat_map}
use Rattle.dactl_contractum.specs.Lefts.{words, left_unbound}
use Rattle.dactl_contractum.proofs.lefts.unbound.Given as goal

abbrev pub invariant-loop-left : goal.invariant-loop-left
invariant-loop-left l = l.faults.items ≡ l.initial.faults.items ++ flat_map (left_unbound l.variables) (words (take l.left-index l.lefts))
