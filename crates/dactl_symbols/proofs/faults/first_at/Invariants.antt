use Rattle.std.proofs.Common.{◌≡◌, take}
use Rattle.dactl_symbols.specs.Least.{least_by}
use Rattle.dactl_symbols.specs.Counting.{fault_at}
use Rattle.dactl_symbols.proofs.faults.first_at.Given as goal

abbrev pub invariant-loop-place : goal.invariant-loop-place
invariant-loop-place l = l.least ≡ least_by (fault_at l.kind) (take l.place-index l.places)
