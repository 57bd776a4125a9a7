use Rattle.std.proofs.Common.{arith}
use Rattle.dactl_seats.proofs.trying.there.Goals as goal

pub returns-then-number-count-clause-known : goal.returns-then-number-count-clause-known
returns-then-number-count-clause-known g c = c.count.ensures.known (record { number = c.args.number }) (omega arith)
