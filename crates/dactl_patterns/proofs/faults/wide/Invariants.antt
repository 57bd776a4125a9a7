use Rattle.std.proofs.Common.{◌≡◌, ◌++◌, map, drop}
use Rattle.std.specs.List.{flat_map}
use Rattle.dactl_patterns.specs.Occurring.{used}
use Rattle.dactl_patterns.specs.TreeFaults.{wide_fault}
use Rattle.dactl_patterns.proofs.faults.wide.Given as goal

-- what is found, and what the rest will add, is all
abbrev pub invariant-loop-one : goal.invariant-loop-one
invariant-loop-one l = l.faults.items ++ flat_map wide_fault (map used (drop l.one-index l.uses)) ≡ l.initial.faults.items ++ flat_map wide_fault (map used l.uses)
