use Rattle.dactl_model.specs.Graphs.{node_at}
use Rattle.dactl_print.proofs.Pieces.{prints_then, prints_no_more, prints_same}
use Rattle.dactl_print.proofs.NodeTexts.{content_parts}
use Rattle.dactl_print.proofs.lines.gather_content.Goals as goal

pub returns-in_err-gather_mark : goal.returns-in_err-gather_mark
returns-in_err-gather_mark g c =
    let o = node_at (g.V.View.graph c.args.view.now) c.args.node in
    prints_same (content_parts c.args.program.now c.args.walk.now.order o c.mark-mark.result c.label-label.result c.mark-mark.ensures c.label-label.ensures)
    (prints_no_more _ c.in_err-gather_mark.ensures c.from_residual.ensures.0)

pub returns-in_err-gather_label : goal.returns-in_err-gather_label
returns-in_err-gather_label g c =
    let o = node_at (g.V.View.graph c.args.view.now) c.args.node in
    prints_same (content_parts c.args.program.now c.args.walk.now.order o c.mark-mark.result c.label-label.result c.mark-mark.ensures c.label-label.ensures)
    (prints_then c.in_ok-gather_mark.ensures (prints_no_more _ c.in_err-gather_label.ensures c.from_residual-in_err-gather_label.ensures.0))

pub returns-in_err-gather_arguments : goal.returns-in_err-gather_arguments
returns-in_err-gather_arguments g c =
    let o = node_at (g.V.View.graph c.args.view.now) c.args.node in
    prints_same (content_parts c.args.program.now c.args.walk.now.order o c.mark-mark.result c.label-label.result c.mark-mark.ensures c.label-label.ensures)
    (prints_then c.in_ok-gather_mark.ensures (prints_then c.in_ok-gather_label.ensures (prints_no_more _ c.in_err-gather_arguments.ensures c.from_residual-in_err-gather_arguments.ensures.0)))

pub returns : goal.returns
returns g c =
    let o = node_at (g.V.View.graph c.args.view.now) c.args.node in
    prints_same (content_parts c.args.program.now c.args.walk.now.order o c.mark-mark.result c.label-label.result c.mark-mark.ensures c.label-label.ensures)
    (prints_then c.in_ok-gather_mark.ensures (prints_then c.in_ok-gather_label.ensures (prints_then c.in_ok-gather_arguments.ensures c.gather.ensures)))
