use Rattle.dactl_syntax.proofs.Answered.{one_tree}
use Rattle.dactl_syntax.proofs.laws.one_tree.Goals as goal

pub returns : goal.returns
returns c = one_tree
