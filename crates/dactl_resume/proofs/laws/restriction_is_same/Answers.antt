use Rattle.dactl_resume.proofs.Canonical.{restriction_is_same}
use Rattle.dactl_resume.proofs.laws.restriction_is_same.Goals as goal

pub returns : goal.returns
returns c = restriction_is_same
