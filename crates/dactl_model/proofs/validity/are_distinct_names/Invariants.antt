use Rattle.std.proofs.Common.{take}
use Rattle.dactl_model.specs.Validity.{AreDistinctNames}
use Rattle.dactl_model.proofs.validity.are_distinct_names.Given as goal

abbrev pub invariant-loop-place : goal.invariant-loop-place
invariant-loop-place l = AreDistinctNames (take l.place l.symbols)
