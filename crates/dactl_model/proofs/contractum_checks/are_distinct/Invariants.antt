use Rattle.std.proofs.Common.{take}
use Rattle.dactl_model.specs.Validity.{AreDistinctLefts}
use Rattle.dactl_model.proofs.contractum_checks.are_distinct.Given as goal

abbrev pub invariant-loop-place : goal.invariant-loop-place
invariant-loop-place l = AreDistinctLefts (take l.place l.moves)
