use Rattle.dactl_arcs.proofs.Stamping.{pushed_changes}
use Rattle.dactl_arcs.proofs.stamped.StampedLists.push.Goals as goal

pub returns-clause-changed : goal.returns-clause-changed
returns-clause-changed c = pushed_changes _ _ _ _ _ c.self.invariant _ c.self.view_is c.args.arc _ _ _ c.requires.target c.get-joined.ensures c.push.ensures.arcs c.push_reserved.ensures.items
