use Rattle.std.proofs.Common.{◌≡◌, ℕ, List, ◌++◌, drop, map, Ok}
use Rattle.std.specs.List.{concat}
use Rattle.dactl_base.specs.declared.source.Failed.{Failed}
use Rattle.dactl_print.specs.Printing.{Prints}
use Rattle.dactl_print.specs.Lines.{node_line, graph_lines}
use Rattle.dactl_print.proofs.lines.gather_graph.Given as goal

abbrev pub invariant-loop-node : goal.invariant-loop-node
invariant-loop-node g l =
    let graph = g.V.View.graph l.view in
    record {
      sent : List ℕ;
      split : graph_lines l.program graph l.walk.order ≡ sent ++ concat (map (node_line l.program graph l.walk.order) (drop l.node-index l.order));
      prints : Prints {T = Unit {0}} {E = Failed} (g.K.Sink.holds l.initial.sink) (g.K.Sink.holds l.sink) (g.K.Sink.faults l.initial.sink) (g.K.Sink.faults l.sink) l.initial.page l.page (Ok tt) sent;
    }
