use Rattle.dactl_model.specs.Graphs.{IsWellFormed}
use Rattle.dactl_plain.proofs.tests.run.Given as goal

abbrev pub invariant-loop-count : goal.invariant-loop-count
invariant-loop-count l = IsWellFormed l.graph
