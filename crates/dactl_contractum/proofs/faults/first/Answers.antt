use Rattle.dactl_contractum.proofs.Least.{first_more, first_end}
use Rattle.dactl_contractum.proofs.faults.first.Goals as goal

pub loop-fault-preserved : goal.loop-fault-preserved
loop-fault-preserved c = rw c.lesser-least.ensures (first_more c.args.faults.now c.loop-fault.fault-index _ c.loop-fault.least c.loop-fault-test.true c.loop-fault.invariant)

pub returns : goal.returns
returns c = first_end c.args.faults.now c.loop-fault.fault-index c.loop-fault.least c.loop-fault-test.false c.loop-fault.invariant
