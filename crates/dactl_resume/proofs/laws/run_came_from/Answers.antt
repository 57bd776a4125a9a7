use Rattle.dactl_resume.proofs.Onward.{run_came_from}
use Rattle.dactl_resume.proofs.laws.run_came_from.Goals as goal

pub returns : goal.returns
returns c = run_came_from
