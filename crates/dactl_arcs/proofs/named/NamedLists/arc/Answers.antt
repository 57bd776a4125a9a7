use Rattle.std.proofs.Common.{rules, subst}
use Rattle.dactl_arcs.specs.Linked.{IsValidLists}
use Rattle.dactl_arcs.proofs.Naming.{arc_on, target_on, valid_seen}
use Rattle.dactl_arcs.proofs.named.NamedLists.arc.Goals as goal

pub get-requires : goal.get-requires
get-requires c =
    let below = target_on _ _ _ c.self.invariant _ c.self.view_is c.args.arc _ c.arc-record.ensures.found c.arc-record.ensures.valid in
    search rules

pub returns-clause-found : goal.returns-clause-found
returns-clause-found c = arc_on _ _ _ c.self.invariant _ c.self.view_is c.args.arc _ _ c.arc-record.ensures.found c.get.ensures

pub returns-clause-valid : goal.returns-clause-valid
returns-clause-valid c = subst IsValidLists c.self.view_is (valid_seen _ _ _ c.self.invariant c.arc-record.ensures.valid)
