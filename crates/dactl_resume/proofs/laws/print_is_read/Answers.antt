use Rattle.dactl_resume.proofs.PrintRead.{print_is_read}
use Rattle.dactl_resume.proofs.laws.print_is_read.Goals as goal

pub returns : goal.returns
returns c = print_is_read
