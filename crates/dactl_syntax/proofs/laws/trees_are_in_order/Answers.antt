use Rattle.dactl_syntax.proofs.InOrder.{places_stand_in_order}
use Rattle.dactl_syntax.proofs.laws.trees_are_in_order.Goals as goal

pub returns : goal.returns
returns c = places_stand_in_order
