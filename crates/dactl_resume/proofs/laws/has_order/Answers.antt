use Rattle.dactl_resume.proofs.Ordering.{has_order}
use Rattle.dactl_resume.proofs.laws.has_order.Goals as goal

pub returns : goal.returns
returns c = has_order
