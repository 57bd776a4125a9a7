use Rattle.dactl_shared.specs.Stores.{WorksFor}
use Rattle.dactl_seats.proofs.crowd_tests.works.Given as goal

abbrev pub invariant-loop : goal.invariant-loop
invariant-loop g l = WorksFor l.store l.seat
