use Rattle.dactl_arcs.proofs.Stamping.{swapped_changes}
use Rattle.dactl_arcs.proofs.stamped.StampedLists.swap.Goals as goal

pub returns-clause-changed : goal.returns-clause-changed
returns-clause-changed c =
    swapped_changes _ _ _ _ _ c.self.invariant _ c.self.view_is c.args.from c.args.to _ _ _ _ _ c.requires.different c.requires.from_in_range c.requires.to_in_range c.get-one.ensures c.get.ensures c.swap.ensures.arcs c.set.ensures c.set-2.ensures
