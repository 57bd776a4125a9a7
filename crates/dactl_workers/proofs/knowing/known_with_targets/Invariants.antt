use Rattle.dactl_model.specs.Readings.{targets_of}
use Rattle.dactl_workers.specs.Turns.{IsKnownWith}
use Rattle.dactl_workers.proofs.knowing.known_with_targets.Given as goal

abbrev pub invariant-loop-node : goal.invariant-loop-node
invariant-loop-node l = IsKnownWith l.initial.known (targets_of l.reading.targets) l.known
