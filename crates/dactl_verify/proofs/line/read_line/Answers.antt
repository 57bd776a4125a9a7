use Rattle.std.proofs.Common.{ℕ, [], subst}
use Rattle.dactl_base.specs.Readers.{BeginsWith}
use Rattle.dactl_base.proofs.NumberParts.{number_behind}
use Rattle.dactl_verify.proofs.LineParts.{line_number, line_worker, line_event, line_read}
use Rattle.dactl_verify.proofs.line.read_line.Goals as goal

pub returns-in_err-own : goal.returns-in_err-own
returns-in_err-own c = rw c.from_residual.ensures (λ entry small is. c.in_err-own.ensures _ _ (line_number entry c.ranges.number.fits is))

pub returns-then-own-number : goal.returns-then-own-number
returns-then-own-number c = λ entry small is. c.if-own-number.true ((number_behind c.in_ok-own.ensures (line_number entry c.ranges.number.fits is)).0)

pub returns-in_err-worker : goal.returns-in_err-worker
returns-in_err-worker c = rw c.from_residual-in_err-worker.ensures (λ entry small is. c.in_err-worker.ensures _ _ is.worker (line_worker entry c.ranges.number.fits c.in_ok-own.ensures is))

pub returns-in_err-event : goal.returns-in_err-event
returns-in_err-event c = rw c.from_residual-in_err-event.ensures (λ entry small is. c.in_err-event.ensures entry.event small (line_event entry c.ranges.number.fits c.in_ok-own.ensures c.in_ok-worker.ensures.1 is))

pub returns : goal.returns
returns c =
    let found = subst (λ (n : ℕ). BeginsWith [] c.args.line.now n c.in_ok-own.behind.now) c.if-own-number.false c.in_ok-own.ensures in
    (c.in_ok-event.ensures.0, line_read c.in_ok-event.event found c.in_ok-worker.ensures.0 c.in_ok-worker.ensures.1 c.in_ok-event.ensures.1)
