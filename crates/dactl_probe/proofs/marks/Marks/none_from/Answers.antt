use Rattle.dactl_probe.proofs.Marking.{unmarked}
use Rattle.dactl_probe.proofs.marks.Marks.none_from.Goals as goal

pub returns : goal.returns
returns c = unmarked c.args.from
