use Rattle.std.proofs.Common.{◌≡◌, ℕ, List, ◌++◌, drop, Ok}
use Rattle.dactl_base.specs.declared.source.Failed.{Failed}
use Rattle.dactl_model.specs.Graphs.{node_at}
use Rattle.dactl_print.specs.Printing.{Prints}
use Rattle.dactl_print.specs.Lines.{further_arguments, arcs_of}
use Rattle.dactl_print.proofs.lines.gather_further.Given as goal

abbrev pub invariant-loop-place : goal.invariant-loop-place
invariant-loop-place g l =
    let arcs = arcs_of (node_at (g.V.View.graph l.view) l.node) in
    record {
      sent : List ℕ;
      split : further_arguments l.walk.order (drop 1 arcs) ≡ sent ++ further_arguments l.walk.order (drop l.place arcs);
      prints : Prints {T = Unit {0}} {E = Failed} (g.K.Sink.holds l.initial.sink) (g.K.Sink.holds l.sink) (g.K.Sink.faults l.initial.sink) (g.K.Sink.faults l.sink) l.initial.page l.page (Ok tt) sent;
    }
