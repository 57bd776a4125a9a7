use Rattle.dactl_within.proofs.Runs.{run_is_renumbered}
use Rattle.dactl_within.proofs.laws.run_is_renumbered.Goals as goal

pub returns : goal.returns
returns c = run_is_renumbered
