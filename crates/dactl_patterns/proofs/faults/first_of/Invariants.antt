use Rattle.std.proofs.Common.{◌≡◌, Some, take}
use Rattle.dactl_symbols.specs.Least.{least_by}
use Rattle.dactl_patterns.proofs.faults.first_of.Given as goal

abbrev pub invariant-loop-fault : goal.invariant-loop-fault
invariant-loop-fault l = l.first ≡ least_by Some (take l.fault-index l.faults)
