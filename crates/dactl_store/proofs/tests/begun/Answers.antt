use Rattle.std.proofs.Common.{arith}
use Rattle.dactl_store.proofs.Latest.{latest_begun}
use Rattle.dactl_store.proofs.tests.begun.Goals as goal

pub returns : goal.returns
returns g c = latest_begun 1 _ _ c.in_ok-store.store (omega arith) c.in_ok-store.ensures.ok
