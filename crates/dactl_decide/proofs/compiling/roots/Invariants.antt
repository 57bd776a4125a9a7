use Rattle.dactl_decide.specs.Gathering.{AreTreesBelow}
use Rattle.dactl_decide.proofs.compiling.roots.Given as goal

-- the root's path for each symbol so far
abbrev pub invariant-loop : goal.invariant-loop
invariant-loop l = AreTreesBelow l.program.rules l.counter 0 l.trees.items
