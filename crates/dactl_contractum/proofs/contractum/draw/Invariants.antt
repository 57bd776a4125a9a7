use Rattle.std.proofs.Common.{take}
use Rattle.dactl_contractum.specs.Terms.{seen, AreDrawn}
use Rattle.dactl_contractum.proofs.contractum.draw.Given as goal

abbrev pub invariant-loop-tree : goal.invariant-loop-tree
invariant-loop-tree l = AreDrawn (seen (take l.tree-index l.terms)) l.drawing l.targets.items
