use Rattle.std.proofs.Common.{take}
use Rattle.dactl_symbols.specs.Least.{TellsLeast}
use Rattle.dactl_patterns.specs.Cycles.{SomeCycle}
use Rattle.dactl_patterns.proofs.cycling.first_cycle.Given as goal

abbrev pub invariant-loop-declared : goal.invariant-loop-declared
invariant-loop-declared l = TellsLeast (SomeCycle l.web.text.now (take l.declared-index l.patterns)) l.first
