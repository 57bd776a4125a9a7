use Rattle.std.proofs.Common.{◌≡◌, map, drop}
use Rattle.std.specs.List.{list_all}
use Rattle.dactl_model.specs.Programs as programs
use Rattle.dactl_model.proofs.pattern_checks.+symbols.Given as goal

-- what the patterns so far answer leaves the answer to the rest
abbrev pub invariant-all_symbols_below-loop-pattern : goal.invariant-all_symbols_below-loop-pattern
invariant-all_symbols_below-loop-pattern l =
    list_all (λ b. b) (map (programs.symbols_below l.count) l.patterns) ≡ list_all (λ b. b) (map (programs.symbols_below l.count) (drop l.pattern-index l.patterns))
