use Rattle.std.proofs.Common.{◌≡◌, ◌<◌, arith}
use Rattle.dactl_shared.proofs.tests.finds_start.Goals as goal

pub read-reading-requires-clause-node : goal.read-reading-requires-clause-node
read-reading-requires-clause-node g c = c.count.ensures.known (record { number = 0 }) (omega arith)
