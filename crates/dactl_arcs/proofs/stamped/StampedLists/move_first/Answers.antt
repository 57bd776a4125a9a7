use Rattle.dactl_arcs.proofs.Stamping.{moved_changes}
use Rattle.dactl_arcs.proofs.stamped.StampedLists.move_first.Goals as goal

pub returns-clause-changed : goal.returns-clause-changed
returns-clause-changed c =
    moved_changes _ _ _ _ _ c.self.invariant _ c.self.view_is c.args.arc c.args.from c.args.to _ _ _ _ c.move_first.ensures.leads c.requires.from_in_range c.requires.to_in_range c.get.ensures c.index.ensures c.last_change-own.ensures c.get-joined.ensures _ c.move_first.ensures.arcs
