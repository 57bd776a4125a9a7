use Rattle.std.proofs.Common.{◌≡◌, ℕ, ◌+◌, List, ◌++◌, drop, Ok}
use Rattle.dactl_base.specs.declared.source.Failed.{Failed}
use Rattle.dactl_print.specs.Printing.{Prints}
use Rattle.dactl_print.specs.Texts.{entry_lines, trace_lines}
use Rattle.dactl_print.proofs.texts.gather_trace.Given as goal

abbrev pub invariant-loop-entry : goal.invariant-loop-entry
invariant-loop-entry g l = record {
  number : l.number ≡ l.entry-index + 1;
  sent : List ℕ;
  split : trace_lines l.journal ≡ sent ++ entry_lines l.number (drop l.entry-index l.journal);
  prints : Prints {T = Unit {0}} {E = Failed} (g.K.Sink.holds l.initial.sink) (g.K.Sink.holds l.sink) (g.K.Sink.faults l.initial.sink) (g.K.Sink.faults l.sink) l.initial.page l.page (Ok tt) sent;
}
