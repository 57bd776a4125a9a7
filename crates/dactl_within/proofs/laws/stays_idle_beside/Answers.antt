use Rattle.dactl_within.proofs.Runs.{stays_idle_beside}
use Rattle.dactl_within.proofs.laws.stays_idle_beside.Goals as goal

pub returns : goal.returns
returns c = stays_idle_beside
