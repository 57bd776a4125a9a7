use Rattle.std.proofs.Common.{◌+◌, ◌≤◌, length}
use Rattle.dactl_verify.specs.Verdicts.{IsChecked}
use Rattle.dactl_verify.specs.Steps.{IsReached}
use Rattle.dactl_verify.proofs.checking.verify.Given as goal

-- the lines so far are right and fit, lead to the graph, and what is left follows
abbrev pub invariant-lines : goal.invariant-lines
invariant-lines l = record {
  checked : IsChecked l.program l.trace l.room l.journal.items l.reached.graph l.rest;
  reached : IsReached l.room l.reached;
  few : length l.journal.items + length l.rest ≤ 1048576;
}

abbrev pub decreases-lines : goal.decreases-lines
decreases-lines l = length l.rest
