use Rattle.dactl_resume.proofs.Exact.{is_read_or_bad}
use Rattle.dactl_resume.proofs.laws.is_read_or_bad.Goals as goal

pub returns : goal.returns
returns c = is_read_or_bad
