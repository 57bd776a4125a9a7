use Rattle.dactl_print.proofs.Pieces.{prints_then, prints_no_more}
use Rattle.dactl_print.proofs.lines.gather_line_number.Goals as goal

pub returns-in_err-gather : goal.returns-in_err-gather
returns-in_err-gather g c = prints_no_more _ c.in_err-gather.ensures c.from_residual.ensures.0

pub returns-in_err-gather_number : goal.returns-in_err-gather_number
returns-in_err-gather_number g c =
    prints_then c.in_ok-gather.ensures (rw (← c.number.ensures) (prints_no_more _ c.in_err-gather_number.ensures c.from_residual-in_err-gather_number.ensures.0))

pub returns : goal.returns
returns g c = prints_then c.in_ok-gather.ensures (rw (← c.number.ensures) (prints_then c.in_ok-gather_number.ensures c.gather-2.ensures))
