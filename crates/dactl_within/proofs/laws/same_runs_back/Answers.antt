use Rattle.dactl_within.proofs.Runs.{same_runs_back}
use Rattle.dactl_within.proofs.laws.same_runs_back.Goals as goal

pub returns : goal.returns
returns c = same_runs_back
