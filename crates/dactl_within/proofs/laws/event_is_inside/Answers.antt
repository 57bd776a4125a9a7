use Rattle.dactl_within.proofs.Runs.{event_is_inside}
use Rattle.dactl_within.proofs.laws.event_is_inside.Goals as goal

pub returns : goal.returns
returns c = event_is_inside
