use Rattle.std.proofs.Common.{◌≡◌, ℕ, ◌+◌, List, ◌++◌, length, Ok}
use Rattle.dactl_base.specs.declared.source.Failed.{Failed}
use Rattle.dactl_print.specs.Printing.{Prints}
use Rattle.dactl_print.proofs.page.Page.gather.Given as goal

abbrev pub invariant-loop-rest : goal.invariant-loop-rest
invariant-loop-rest g l = record {
  sent : List ℕ;
  split : l.bytes ≡ sent ++ l.rest;
  prints : Prints {T = Unit {0}} {E = Failed} (g.K.Sink.holds l.initial.sink) (g.K.Sink.holds l.sink) (g.K.Sink.faults l.initial.sink) (g.K.Sink.faults l.sink) l.initial.self l.self (Ok tt) sent;
}

abbrev pub decreases-loop-rest : goal.decreases-loop-rest
decreases-loop-rest g l = length l.rest + length l.self
