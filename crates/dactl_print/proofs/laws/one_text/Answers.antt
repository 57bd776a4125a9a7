use Rattle.dactl_print.proofs.OneOrder.{has_one_text}
use Rattle.dactl_print.proofs.laws.one_text.Goals as goal

pub returns : goal.returns
returns c = has_one_text
