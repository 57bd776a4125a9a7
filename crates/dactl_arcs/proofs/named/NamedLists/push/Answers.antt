use Rattle.dactl_arcs.proofs.Naming.{add_on}
use Rattle.dactl_arcs.proofs.named.NamedLists.push.Goals as goal

pub returns-clause-arcs : goal.returns-clause-arcs
returns-clause-arcs c = add_on _ _ _ c.self.invariant _ c.self.view_is c.args.arc _ _ c.requires.target c.get.ensures c.push.ensures.arcs
