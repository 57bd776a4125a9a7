use Rattle.dactl_steal.proofs.Others.{robbed}
use Rattle.dactl_steal.proofs.stealing.rob_at.Goals as goal

pub returns-in-Some-clause-taken : goal.returns-in-Some-clause-taken
returns-in-Some-clause-taken g c = robbed _ _ c.in-Some.other (record { thief = c.in-Some.other.thief; pass = c.rob.new.pass }) c.in-Some.is c.rob.ensures.taken
