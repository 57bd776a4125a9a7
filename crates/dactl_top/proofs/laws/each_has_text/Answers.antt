use Rattle.dactl_top.proofs.Orders as orders
use Rattle.dactl_top.proofs.laws.each_has_text.Goals as goal

pub returns : goal.returns
returns c = orders.each_has_text
