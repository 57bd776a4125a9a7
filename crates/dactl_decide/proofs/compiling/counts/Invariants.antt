use Rattle.std.proofs.Common.{◌≡◌, map, take}
use Rattle.dactl_decide.specs.PathTrees.{size}
use Rattle.dactl_decide.proofs.compiling.counts.Given as goal

-- the sizes of the trees so far
abbrev pub invariant-loop-tree : goal.invariant-loop-tree
invariant-loop-tree l = l.paths.items ≡ map size (take l.tree-index l.trees)
