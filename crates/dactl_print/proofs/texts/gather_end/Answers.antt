use Rattle.dactl_print.proofs.Pieces.{prints_then, prints_no_more}
use Rattle.dactl_print.proofs.texts.gather_end.Goals as goal

pub returns-in_err-gather : goal.returns-in_err-gather
returns-in_err-gather g c = rw (← c.word_of.ensures) (prints_no_more _ c.in_err-gather.ensures c.from_residual.ensures.0)

pub returns-in_err-gather_number : goal.returns-in_err-gather_number
returns-in_err-gather_number g c =
    rw (← c.word_of.ensures) (prints_then c.in_ok-gather.ensures (prints_no_more _ c.in_err-gather_number.ensures c.from_residual-in_err-gather_number.ensures.0))

pub returns : goal.returns
returns g c =
    rw (← c.word_of.ensures) (prints_then c.in_ok-gather.ensures (prints_then c.in_ok-gather_number.ensures c.gather-2.ensures))
