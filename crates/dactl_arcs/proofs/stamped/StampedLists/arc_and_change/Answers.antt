use Rattle.std.proofs.Common.{rules}
use Rattle.dactl_arcs.proofs.Stamping.{changed_seen, target_inside}
use Rattle.dactl_arcs.proofs.stamped.StampedLists.arc_and_change.Goals as goal

pub get-list-requires : goal.get-list-requires
get-list-requires c =
    let below = target_inside _ _ _ _ _ c.self.invariant _ c.self.view_is c.args.arc _ c.arc-record.ensures.found c.arc-record.ensures.valid in
    search rules

pub returns-clause-changed : goal.returns-clause-changed
returns-clause-changed c = changed_seen _ _ _ _ _ c.self.invariant _ c.self.view_is c.args.arc _ c.arc-record.ensures.found c.arc-record.ensures.valid _ _ _ c.get-list.ensures c.index.ensures c.last_change.ensures
