use Rattle.dactl_print.proofs.Pieces.{prints_then, prints_no_more}
use Rattle.dactl_print.proofs.texts.gather_entry.Goals as goal

pub returns-in_err-gather : goal.returns-in_err-gather
returns-in_err-gather g c = prints_then c.in_ok-gather_number.ensures (prints_no_more _ c.in_err-gather.ensures c.from_residual-in_err-gather.ensures.0)

pub returns-in_err-gather_number-2 : goal.returns-in_err-gather_number-2
returns-in_err-gather_number-2 g c =
    prints_then c.in_ok-gather_number.ensures (prints_then c.in_ok-gather.ensures (prints_no_more _ c.in_err-gather_number-2.ensures c.from_residual-in_err-gather_number-2.ensures.0))

pub returns-in_err-gather_event : goal.returns-in_err-gather_event
returns-in_err-gather_event g c =
    prints_then c.in_ok-gather_number.ensures
    (prints_then c.in_ok-gather.ensures
    (prints_then c.in_ok-gather_number-2.ensures (prints_no_more _ c.in_err-gather_event.ensures c.from_residual-in_err-gather_event.ensures.0)))

pub returns : goal.returns
returns g c =
    prints_then c.in_ok-gather_number.ensures
    (prints_then c.in_ok-gather.ensures (prints_then c.in_ok-gather_number-2.ensures (prints_then c.in_ok-gather_event.ensures c.gather-2.ensures)))

pub returns-in_err-gather_number : goal.returns-in_err-gather_number
returns-in_err-gather_number g c = prints_no_more _ c.in_err-gather_number.ensures c.from_residual.ensures.0
