use Rattle.std.proofs.Common.{Contains, take}
use Rattle.dactl_symbols.specs.Least.{TellsLeast}
use Rattle.dactl_contractum.proofs.faults.first.Given as goal

abbrev pub invariant-loop-fault : goal.invariant-loop-fault
invariant-loop-fault l = TellsLeast (Contains (take l.fault-index l.faults)) l.least
