use Rattle.dactl_print.proofs.Pieces.{prints_then, prints_no_more}
use Rattle.dactl_print.proofs.texts.gather_event.Goals as goal

pub returns-in_err-gather-in-Fire : goal.returns-in_err-gather-in-Fire
returns-in_err-gather-in-Fire g c = rw c.in-Fire.is (prints_no_more _ c.in_err-gather-in-Fire.ensures c.from_residual.ensures.0)

pub returns-in_err-gather_number-in-Fire : goal.returns-in_err-gather_number-in-Fire
returns-in_err-gather_number-in-Fire g c =
    rw c.in-Fire.is (prints_then c.in_ok-gather-in-Fire.ensures (prints_no_more _ c.in_err-gather_number-in-Fire.ensures c.from_residual-in_err-gather_number-in-Fire.ensures.0))

pub returns-in_err-gather-in-Fire-2 : goal.returns-in_err-gather-in-Fire-2
returns-in_err-gather-in-Fire-2 g c =
    rw c.in-Fire.is (prints_then c.in_ok-gather-in-Fire.ensures (prints_then c.in_ok-gather_number-in-Fire.ensures (prints_no_more _ c.in_err-gather-in-Fire-2.ensures c.from_residual-in_err-gather-in-Fire-2.ensures.0)))

pub returns-in_err-gather-in-Note : goal.returns-in_err-gather-in-Note
returns-in_err-gather-in-Note g c = rw c.in-Note.is (prints_no_more _ c.in_err-gather-in-Note.ensures c.from_residual-in_err-gather-in-Note.ensures.0)

pub returns-in_ok-gather-in-Fire-2 : goal.returns-in_ok-gather-in-Fire-2
returns-in_ok-gather-in-Fire-2 g c =
    rw c.in-Fire.is (prints_then c.in_ok-gather-in-Fire.ensures (prints_then c.in_ok-gather_number-in-Fire.ensures (prints_then c.in_ok-gather-in-Fire-2.ensures c.gather_number-in-Fire.ensures)))

pub returns-in_ok-gather-in-Note : goal.returns-in_ok-gather-in-Note
returns-in_ok-gather-in-Note g c = rw c.in-Note.is (prints_then c.in_ok-gather-in-Note.ensures c.gather_number-in-Note.ensures)
