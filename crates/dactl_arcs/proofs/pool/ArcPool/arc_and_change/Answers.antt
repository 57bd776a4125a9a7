use Rattle.dactl_arcs.proofs.Housing.{housed, placed_at}
use Rattle.dactl_arcs.proofs.pool.ArcPool.arc_and_change.Goals as goal

pub arc_seen-requires : goal.arc_seen-requires
arc_seen-requires c = housed _ _ (placed_at _ _ c.args.arc _ c.self.invariant.ends c.arc_and_change-change.ensures.arc)
