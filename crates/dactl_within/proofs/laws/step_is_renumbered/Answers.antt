use Rattle.dactl_within.proofs.Runs.{step_is_renumbered}
use Rattle.dactl_within.proofs.laws.step_is_renumbered.Goals as goal

pub returns : goal.returns
returns c = step_is_renumbered
