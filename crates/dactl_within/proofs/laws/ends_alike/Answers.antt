use Rattle.dactl_within.proofs.Runs.{ends_alike}
use Rattle.dactl_within.proofs.laws.ends_alike.Goals as goal

pub returns : goal.returns
returns c = ends_alike
