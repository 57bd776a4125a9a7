use Rattle.dactl_within.proofs.Composing.{part_of_part}
use Rattle.dactl_within.proofs.laws.part_of_part.Goals as goal

pub returns : goal.returns
returns c = part_of_part
