use Rattle.dactl_arcs.proofs.Naming.{move_seen, leads_on}
use Rattle.dactl_arcs.proofs.named.NamedLists.move_first.Goals as goal

pub returns-clause-arcs : goal.returns-clause-arcs
returns-clause-arcs c =
    move_seen _ _ _ c.self.invariant _ c.self.view_is c.args.arc c.args.from c.args.to _ _ c.requires.from_in_range c.requires.to_in_range c.get.ensures c.get-2.ensures c.move_first.ensures.leads _ c.move_first.ensures.arcs

pub returns-clause-leads : goal.returns-clause-leads
returns-clause-leads c =
    leads_on _ _ _ c.self.invariant _ c.self.view_is c.args.arc c.args.from c.args.to _ _ c.requires.from_in_range c.requires.to_in_range c.get.ensures c.get-2.ensures c.move_first.ensures.leads
