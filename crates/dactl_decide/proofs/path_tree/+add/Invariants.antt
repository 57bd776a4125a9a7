use Rattle.dactl_decide.proofs.Trees.{AreMerging}
use Rattle.dactl_decide.proofs.path_tree.+add.Given as goal

-- the patterns so far are merged into the trees at their places
abbrev pub invariant-add_each-loop-place : goal.invariant-add_each-loop-place
invariant-add_each-loop-place l = AreMerging l.initial.trees.items l.trees.items l.patterns l.place
