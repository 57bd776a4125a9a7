use Rattle.dactl_within.proofs.Runs.{same_stays}
use Rattle.dactl_within.proofs.laws.same_stays.Goals as goal

pub returns : goal.returns
returns c = same_stays
