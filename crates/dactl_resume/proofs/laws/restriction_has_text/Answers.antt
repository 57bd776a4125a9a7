use Rattle.dactl_resume.proofs.Canonical.{restriction_has_text}
use Rattle.dactl_resume.proofs.laws.restriction_has_text.Goals as goal

pub returns : goal.returns
returns c = restriction_has_text
