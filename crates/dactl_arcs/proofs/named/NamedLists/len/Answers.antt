use Rattle.std.proofs.Common.{subst}
use Rattle.dactl_arcs.specs.Linked.{IsValidLists}
use Rattle.dactl_arcs.proofs.Naming.{valid_seen}
use Rattle.dactl_arcs.proofs.named.NamedLists.len.Goals as goal

pub returns-clause-valid : goal.returns-clause-valid
returns-clause-valid c = subst IsValidLists c.self.view_is (valid_seen _ _ _ c.self.invariant c.len.ensures.valid)
