use Rattle.std.proofs.Common.{take}
use Rattle.dactl_patterns.specs.Cycling.{Gains}
use Rattle.dactl_patterns.proofs.cycling.gain.Given as goal

abbrev pub invariant-loop-name : goal.invariant-loop-name
invariant-loop-name l = Gains l.initial.reached.keys (take l.name-index l.names) l.reached.keys
