use Rattle.dactl_syntax.proofs.Spelled.{trees_are_spelled}
use Rattle.dactl_syntax.proofs.laws.trees_are_spelled.Goals as goal

pub returns : goal.returns
returns c = trees_are_spelled
