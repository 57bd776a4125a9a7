use Rattle.std.proofs.Common.{refl, sym, ap}
use Rattle.dactl_print.specs.Lines.{graph_lines}
use Rattle.dactl_print.proofs.Pieces.{prints_after}
use Rattle.dactl_print.proofs.printer.show.Goals as goal

pub returns-clause-prints : goal.returns-clause-prints
returns-clause-prints g c =
    let order = c.visit.new.self.order in
    (graph_lines c.args.program.now (g.V.View.graph c.args.view.now) order, record { order = order; is_order = c.visit.ensures.order; lines = refl }, prints_after (sym (ap (λ n. n.gathered) c.numbering.view_is)) c.gather_graph.ensures)
