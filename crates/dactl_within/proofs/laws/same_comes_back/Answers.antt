use Rattle.dactl_within.proofs.Runs.{same_comes_back}
use Rattle.dactl_within.proofs.laws.same_comes_back.Goals as goal

pub returns : goal.returns
returns c = same_comes_back
