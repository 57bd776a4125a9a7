use Rattle.std.proofs.Common.{◌≡◌, take}
use Rattle.dactl_patterns.proofs.copying.+copying.Given as goal

abbrev pub invariant-all_copied-loop-pattern : goal.invariant-all_copied-loop-pattern
invariant-all_copied-loop-pattern l = l.copies ≡ take l.pattern-index l.patterns
