use Rattle.std.proofs.Common.{◌≡◌, replicate}
use Rattle.dactl_meaning.specs.declared.tree.PatternTree.TheVariants as p
use Rattle.fun_compile.proofs.patterns.any_patterns.Given as goal

abbrev pub invariant-loop : goal.invariant-loop
invariant-loop l = l.trees ≡ replicate l.counter p.Any
