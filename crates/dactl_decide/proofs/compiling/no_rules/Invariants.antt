use Rattle.dactl_decide.specs.Gathering.{AreListsBelow}
use Rattle.dactl_decide.proofs.compiling.no_rules.Given as goal

-- an empty list for each symbol so far
abbrev pub invariant-loop : goal.invariant-loop
invariant-loop l = AreListsBelow l.program.rules l.counter 0 l.lists.items
