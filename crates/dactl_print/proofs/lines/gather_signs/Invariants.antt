use Rattle.std.proofs.Common.{replicate, Ok}
use Rattle.dactl_base.specs.declared.source.Failed.{Failed}
use Rattle.dactl_print.specs.Printing.{Prints}
use Rattle.dactl_print.proofs.lines.gather_signs.Given as goal

abbrev pub invariant-loop : goal.invariant-loop
invariant-loop g l = Prints {T = Unit {0}} {E = Failed} (g.K.Sink.holds l.initial.sink) (g.K.Sink.holds l.sink) (g.K.Sink.faults l.initial.sink) (g.K.Sink.faults l.sink) l.initial.page l.page (Ok tt) (replicate l.counter 35)
