use Rattle.dactl_probe.proofs.Passing.{all_below}
use Rattle.dactl_probe.proofs.lost.Lost.among.Goals as goal

pub returns-clause-lost : goal.returns-clause-lost
returns-clause-lost c = all_below c.args.numbers.now c.requires c.args.self.now.count c.args.self.now.below c.if-count-eq0.false c.if-count-numbers.false c.if-numbers-count.false
