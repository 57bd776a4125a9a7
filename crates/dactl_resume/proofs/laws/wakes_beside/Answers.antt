use Rattle.dactl_resume.proofs.Waking.{wakes_beside}
use Rattle.dactl_resume.proofs.laws.wakes_beside.Goals as goal

pub returns : goal.returns
returns c = wakes_beside
