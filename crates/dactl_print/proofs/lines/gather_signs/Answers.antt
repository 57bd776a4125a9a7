use Rattle.dactl_print.proofs.Pieces.{prints_then, prints_no_more, prints_same}
use Rattle.dactl_print.proofs.NodeTexts.{one_more_sign, signs_left}
use Rattle.dactl_print.proofs.lines.gather_signs.Goals as goal

pub returns-in_err-gather : goal.returns-in_err-gather
returns-in_err-gather g c = prints_same (signs_left c.loop.counter c.args.count c.loop-test.true) (prints_then c.loop.invariant (prints_no_more _ c.in_err-gather.ensures c.from_residual.ensures.0))

pub loop-preserved : goal.loop-preserved
loop-preserved g c = prints_same (one_more_sign c.loop.counter) (prints_then c.loop.invariant c.in_ok-gather.ensures)
