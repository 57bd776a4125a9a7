use Rattle.dactl_resume.proofs.SameText.{read_is_restriction}
use Rattle.dactl_resume.proofs.laws.read_is_restriction.Goals as goal

pub returns : goal.returns
returns c = read_is_restriction
