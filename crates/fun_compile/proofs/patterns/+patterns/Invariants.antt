use Rattle.std.proofs.Common.{◌≡◌, map, take}
use Rattle.fun_compile.specs.Translated.{pattern_tree}
use Rattle.fun_compile.proofs.patterns.+patterns.Given as goal

abbrev pub invariant-pattern_trees-loop-pattern : goal.invariant-pattern_trees-loop-pattern
invariant-pattern_trees-loop-pattern l = l.trees ≡ map pattern_tree (take l.pattern-index l.patterns)
