use Rattle.dactl_arcs.proofs.Stamping.{cleared_changes}
use Rattle.dactl_arcs.proofs.stamped.StampedLists.clear_waits.Goals as goal

pub returns-clause-changed : goal.returns-clause-changed
returns-clause-changed c = cleared_changes _ _ _ _ _ c.self.invariant _ c.self.view_is c.args.slot _ c.clear_waits.ensures.arcs
