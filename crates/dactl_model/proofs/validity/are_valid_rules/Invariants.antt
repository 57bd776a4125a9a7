use Rattle.std.proofs.Common.{◌≡◌, ℕ, ◌<◌, slice_get, Some}
use Rattle.dactl_model.specs.declared.program.Rule.{Rule}
use Rattle.dactl_model.specs.Programs.{IsValidRule}
use Rattle.dactl_model.proofs.validity.are_valid_rules.Given as goal

-- the rules so far are valid
abbrev pub invariant-loop-number : goal.invariant-loop-number
invariant-loop-number l = (r : ℕ) (rule : Rule) → r < l.number → slice_get l.rules r ≡ Some rule → IsValidRule l.symbols r rule
