use Rattle.std.proofs.Common.{◌≡◌, map, sum, take}
use Rattle.dactl_decide.specs.PathTrees.{size}
use Rattle.dactl_decide.proofs.path_tree.+count.Given as goal

abbrev pub invariant-count_each-loop-tree : goal.invariant-count_each-loop-tree
invariant-count_each-loop-tree l = l.total ≡ sum (map size (take l.tree-index l.trees))
