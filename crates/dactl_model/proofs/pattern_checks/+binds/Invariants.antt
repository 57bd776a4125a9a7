use Rattle.std.proofs.Common.{◌≡◌, map, drop}
use Rattle.dactl_model.specs.Binders as spec
use Rattle.dactl_model.proofs.pattern_checks.+binds.Given as goal

-- what the patterns so far answer leaves the answer to the rest
abbrev pub invariant-any_binds-loop-pattern : goal.invariant-any_binds-loop-pattern
invariant-any_binds-loop-pattern l =
    spec.any_true (map (spec.binds l.variable) l.patterns) ≡ spec.any_true (map (spec.binds l.variable) (drop l.pattern-index l.patterns))
