use Rattle.std.proofs.Common.{◌≡◌, map, drop}
use Rattle.dactl_model.specs.Binders as spec
use Rattle.dactl_model.proofs.pattern_checks.+places.Given as goal

-- what the patterns so far answer leaves the answer to the rest
abbrev pub invariant-all_allow-loop-pattern : goal.invariant-all_allow-loop-pattern
invariant-all_allow-loop-pattern l =
    spec.all_allow (map spec.allows l.patterns) l.allowed ≡ spec.all_allow (map spec.allows (drop l.pattern-index l.patterns)) l.allowed
