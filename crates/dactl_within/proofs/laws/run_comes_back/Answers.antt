use Rattle.dactl_within.proofs.Runs.{run_comes_back}
use Rattle.dactl_within.proofs.laws.run_comes_back.Goals as goal

pub returns : goal.returns
returns c = run_comes_back
