use Rattle.dactl_arcs.proofs.Housing.{valid_seen}
use Rattle.dactl_arcs.proofs.pool.ArcPool.len.Goals as goal

pub returns-clause-valid : goal.returns-clause-valid
returns-clause-valid c = valid_seen _ _ c.self.invariant c.len.ensures.valid _ c.self.view_is
