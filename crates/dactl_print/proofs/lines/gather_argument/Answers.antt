use Rattle.dactl_print.proofs.Pieces.{prints_then, prints_no_more}
use Rattle.dactl_print.proofs.lines.gather_argument.Goals as goal

pub returns-in_err-gather : goal.returns-in_err-gather
returns-in_err-gather g c = prints_no_more _ c.in_err-gather.ensures c.from_residual.ensures.0

pub returns-in_err-gather-2 : goal.returns-in_err-gather-2
returns-in_err-gather-2 g c =
    prints_then c.in_ok-gather.ensures (rw (← c.flag_of.ensures) (prints_no_more _ c.in_err-gather-2.ensures c.from_residual-in_err-gather-2.ensures.0))

pub returns-in_err-gather-3 : goal.returns-in_err-gather-3
returns-in_err-gather-3 g c =
    prints_then c.in_ok-gather.ensures
    (rw (← c.flag_of.ensures) (prints_then c.in_ok-gather-2.ensures (prints_no_more _ c.in_err-gather-3.ensures c.from_residual-in_err-gather-3.ensures.0)))

pub returns : goal.returns
returns g c =
    prints_then c.in_ok-gather.ensures
    (rw (← c.flag_of.ensures, ← c.number.ensures) (prints_then c.in_ok-gather-2.ensures (prints_then c.in_ok-gather-3.ensures c.gather_number.ensures)))
