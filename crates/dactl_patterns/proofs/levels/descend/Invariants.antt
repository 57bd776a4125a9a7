use Rattle.std.proofs.Common.{take}
use Rattle.std.specs.Prelude.{All}
use Rattle.dactl_patterns.specs.Levels.{level_in, DescendsAt}
use Rattle.dactl_patterns.proofs.levels.descend.Given as goal

abbrev pub invariant-loop-declared : goal.invariant-loop-declared
invariant-loop-declared l = All (λ p. DescendsAt l.web.text.now (level_in l.levels) p.pattern) (take l.declared-index l.patterns)
