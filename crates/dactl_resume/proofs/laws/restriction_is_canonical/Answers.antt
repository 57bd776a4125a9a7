use Rattle.dactl_resume.proofs.Canonical.{restriction_is_canonical}
use Rattle.dactl_resume.proofs.laws.restriction_is_canonical.Goals as goal

pub returns : goal.returns
returns c = restriction_is_canonical
