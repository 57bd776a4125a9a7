use Rattle.std.proofs.Common.{length}
use Rattle.dactl_decide.specs.Gathering.{AreTreesBelow}
use Rattle.dactl_decide.proofs.compiling.trees.Given as goal

-- the patterns of the rules so far are in the trees of their symbols
abbrev pub invariant-loop-rule : goal.invariant-loop-rule
invariant-loop-rule l = AreTreesBelow l.program.rules (length l.program.symbols) l.rule-index l.trees.items
