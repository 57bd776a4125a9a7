use Rattle.dactl_resume.proofs.Existing.{has_restriction}
use Rattle.dactl_resume.proofs.laws.has_restriction.Goals as goal

pub returns : goal.returns
returns c = has_restriction
