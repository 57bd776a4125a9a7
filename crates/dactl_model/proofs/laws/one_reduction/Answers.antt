use Rattle.dactl_model.proofs.Reductions.{has_one_reduction}
use Rattle.dactl_model.proofs.laws.one_reduction.Goals as goal

pub returns : goal.returns
returns c = has_one_reduction
