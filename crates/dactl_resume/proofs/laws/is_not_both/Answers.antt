use Rattle.dactl_resume.proofs.Exact.{is_not_both}
use Rattle.dactl_resume.proofs.laws.is_not_both.Goals as goal

pub returns : goal.returns
returns c = is_not_both
