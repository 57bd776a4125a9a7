use Rattle.std.proofs.Common.{◌≤◌}
use Rattle.std.specs.List.{AllAdjacentBelow}
use Rattle.dactl_model.proofs.validity.do_groups_rise.Given as goal

-- the groups so far do not fall
abbrev pub invariant-loop-place : goal.invariant-loop-place
invariant-loop-place l = AllAdjacentBelow (λ a b. a.group ≤ b.group) l.rules l.place
