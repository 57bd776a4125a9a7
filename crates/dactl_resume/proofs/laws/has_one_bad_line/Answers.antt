use Rattle.dactl_resume.proofs.Exact.{has_one_bad_line}
use Rattle.dactl_resume.proofs.laws.has_one_bad_line.Goals as goal

pub returns : goal.returns
returns c = has_one_bad_line
