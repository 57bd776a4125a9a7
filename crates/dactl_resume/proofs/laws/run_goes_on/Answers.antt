use Rattle.dactl_resume.proofs.Onward.{run_goes_on}
use Rattle.dactl_resume.proofs.laws.run_goes_on.Goals as goal

pub returns : goal.returns
returns c = run_goes_on
