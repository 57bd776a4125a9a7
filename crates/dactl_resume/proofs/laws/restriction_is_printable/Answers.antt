use Rattle.dactl_resume.proofs.Printable.{restriction_is_printable}
use Rattle.dactl_resume.proofs.laws.restriction_is_printable.Goals as goal

pub returns : goal.returns
returns c = restriction_is_printable
