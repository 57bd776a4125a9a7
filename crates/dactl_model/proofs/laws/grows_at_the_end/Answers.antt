use Rattle.dactl_model.proofs.Reductions.{grows_at_the_end}
use Rattle.dactl_model.proofs.laws.grows_at_the_end.Goals as goal

pub returns : goal.returns
returns c = grows_at_the_end
