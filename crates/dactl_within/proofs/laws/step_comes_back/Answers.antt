use Rattle.dactl_within.proofs.Runs.{step_comes_back}
use Rattle.dactl_within.proofs.laws.step_comes_back.Goals as goal

pub returns : goal.returns
returns c = step_comes_back
