use Rattle.std.proofs.Common.{length}
use Rattle.dactl_decide.specs.Gathering.{AreListsBelow}
use Rattle.dactl_decide.proofs.compiling.rules_by_symbol.Given as goal

-- the numbers of the rules so far are in the lists of their symbols
abbrev pub invariant-loop-number : goal.invariant-loop-number
invariant-loop-number l = AreListsBelow l.program.rules (length l.program.symbols) l.number l.lists.items
