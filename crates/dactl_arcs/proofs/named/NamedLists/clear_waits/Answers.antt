use Rattle.dactl_arcs.proofs.Naming.{clear_on}
use Rattle.dactl_arcs.proofs.named.NamedLists.clear_waits.Goals as goal

pub returns-clause-arcs : goal.returns-clause-arcs
returns-clause-arcs c = clear_on _ _ _ c.self.invariant _ c.self.view_is c.args.slot _ _ c.requires c.get.ensures c.len.ensures.valid c.clear_waits.ensures.arcs
