use Rattle.dactl_print.proofs.Pieces.{prints_then, prints_no_more}
use Rattle.dactl_print.proofs.lines.gather_node.Goals as goal

pub returns-in_err-gather_line_number : goal.returns-in_err-gather_line_number
returns-in_err-gather_line_number g c = prints_no_more _ c.in_err-gather_line_number.ensures c.from_residual.ensures.0

pub returns : goal.returns
returns g c = prints_then c.in_ok-gather_line_number.ensures c.gather_content.ensures
