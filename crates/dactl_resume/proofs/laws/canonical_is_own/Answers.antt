use Rattle.dactl_resume.proofs.Canonical.{canonical_is_own}
use Rattle.dactl_resume.proofs.laws.canonical_is_own.Goals as goal

pub returns : goal.returns
returns c = canonical_is_own
