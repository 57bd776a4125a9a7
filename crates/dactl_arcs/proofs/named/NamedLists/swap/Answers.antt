use Rattle.dactl_arcs.proofs.Naming.{swap_names, swap_seen}
use Rattle.dactl_arcs.proofs.named.NamedLists.swap.Goals as goal

pub invariant_of-self : goal.invariant_of-self
invariant_of-self c = swap_names _ _ _ c.self.invariant _ c.self.view_is c.args.from c.args.to _ _ c.requires.different c.requires.from_in_range c.requires.to_in_range c.get-one.ensures c.get-other.ensures _ _ _ _ c.set.ensures c.set-2.ensures c.set-3.ensures c.set-4.ensures

pub returns-clause-arcs : goal.returns-clause-arcs
returns-clause-arcs c =
    swap_seen _ _ _ c.self.invariant _ c.self.view_is c.args.from c.args.to _ _ c.requires.different c.requires.from_in_range c.requires.to_in_range c.get-one.ensures c.get-other.ensures _ _ _ _ c.set.ensures c.set-2.ensures c.set-3.ensures c.set-4.ensures c.len.ensures.valid
