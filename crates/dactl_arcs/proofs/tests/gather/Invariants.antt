use Rattle.std.proofs.Common.{◌≡◌}
use Rattle.dactl_arcs.specs.Pool.{targets}
use Rattle.dactl_arcs.proofs.tests.gather.Given as goal

abbrev pub invariant-loop-from : goal.invariant-loop-from
invariant-loop-from l = (targets l.pool ≡ 2000000) × (l.pool.newest ≡ l.from)
