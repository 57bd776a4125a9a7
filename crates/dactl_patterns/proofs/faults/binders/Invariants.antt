use Rattle.std.proofs.Common.{◌≡◌, ◌++◌, map, drop}
use Rattle.std.specs.List.{flat_map}
use Rattle.dactl_patterns.specs.Occurring.{seen}
use Rattle.dactl_patterns.specs.TreeFaults.{binder_fault}
use Rattle.dactl_patterns.proofs.faults.binders.Given as goal

-- what is found, and what the rest will add, is all
abbrev pub invariant-loop-occurrence : goal.invariant-loop-occurrence
invariant-loop-occurrence l = l.faults.items ++ flat_map (binder_fault l.named) (map seen (drop l.occurrence-index l.occurrences)) ≡ l.initial.faults.items ++ flat_map (binder_fault l.named) (map seen l.occurrences)
