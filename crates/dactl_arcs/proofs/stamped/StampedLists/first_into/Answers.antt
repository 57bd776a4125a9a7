use Rattle.dactl_arcs.proofs.Stamping.{stamped_valid}
use Rattle.dactl_arcs.proofs.stamped.StampedLists.first_into.Goals as goal

pub returns-clause-valid : goal.returns-clause-valid
returns-clause-valid c = stamped_valid _ _ _ _ _ c.self.invariant _ c.self.view_is c.first_into.ensures.valid
