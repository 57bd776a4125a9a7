use Rattle.dactl_validity.proofs.ValidPrograms.{valid_without_faults}
use Rattle.dactl_validity.proofs.laws.valid_without_faults.Goals as goal

pub returns : goal.returns
returns c = valid_without_faults
