use Rattle.dactl_within.proofs.Runs.{same_runs}
use Rattle.dactl_within.proofs.laws.same_runs.Goals as goal

pub returns : goal.returns
returns c = same_runs
