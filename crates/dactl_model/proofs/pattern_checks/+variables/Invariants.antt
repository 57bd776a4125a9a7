use Rattle.std.proofs.Common.{◌≡◌, map, drop}
use Rattle.std.specs.List.{list_all}
use Rattle.dactl_model.specs.Binders as spec
use Rattle.dactl_model.proofs.pattern_checks.+variables.Given as goal

-- what the patterns so far answer leaves the answer to the rest
abbrev pub invariant-all_variables_below-loop-pattern : goal.invariant-all_variables_below-loop-pattern
invariant-all_variables_below-loop-pattern l =
    list_all (λ b. b) (map (spec.variables_below l.count) l.patterns) ≡ list_all (λ b. b) (map (spec.variables_below l.count) (drop l.pattern-index l.patterns))
