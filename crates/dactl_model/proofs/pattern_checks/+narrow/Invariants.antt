use Rattle.std.proofs.Common.{◌≡◌, map, drop}
use Rattle.std.specs.List.{list_all}
use Rattle.dactl_model.specs.Programs as programs
use Rattle.dactl_model.proofs.pattern_checks.+narrow.Given as goal

-- what the patterns so far answer leaves the answer to the rest
abbrev pub invariant-are_narrow-loop-pattern : goal.invariant-are_narrow-loop-pattern
invariant-are_narrow-loop-pattern l =
    list_all (λ b. b) (map programs.is_narrow l.patterns) ≡ list_all (λ b. b) (map programs.is_narrow (drop l.pattern-index l.patterns))
