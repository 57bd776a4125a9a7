use Rattle.dactl_model.proofs.Reductions.{has_one_kind_of_end}
use Rattle.dactl_model.proofs.laws.one_kind_of_end.Goals as goal

pub returns : goal.returns
returns c = has_one_kind_of_end
