use Rattle.dactl_model.specs.Graphs.{node_at}
use Rattle.dactl_print.proofs.Pieces.{prints_then, prints_no_more, prints_same}
use Rattle.dactl_print.proofs.NodeTexts.{arguments_more}
use Rattle.dactl_print.proofs.lines.gather_arguments.Goals as goal

pub returns-in_err-gather_argument : goal.returns-in_err-gather_argument
returns-in_err-gather_argument g c =
    let o = node_at (g.V.View.graph c.args.view.now) c.args.node in
    prints_same (arguments_more c.args.walk.now.order o c.arc.result c.arc.ensures) (prints_no_more _ c.in_err-gather_argument.ensures c.from_residual.ensures.0)

pub returns : goal.returns
returns g c =
    let o = node_at (g.V.View.graph c.args.view.now) c.args.node in
    prints_same (arguments_more c.args.walk.now.order o c.arc.result c.arc.ensures) (prints_then c.in_ok-gather_argument.ensures c.gather_further.ensures)
