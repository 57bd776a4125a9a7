use Rattle.dactl_resume.proofs.Canonical.{has_one_restriction}
use Rattle.dactl_resume.proofs.laws.has_one_restriction.Goals as goal

pub returns : goal.returns
returns c = has_one_restriction
