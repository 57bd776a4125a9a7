use Rattle.dactl_print.proofs.OneOrder.{has_one_order}
use Rattle.dactl_print.proofs.laws.one_order.Goals as goal

pub returns : goal.returns
returns c = has_one_order
