use Rattle.std.proofs.Common.{◌≡◌, ◌+◌}
use Rattle.dactl_store.specs.Redirecting.{IsLatest}
use Rattle.dactl_store.proofs.tests.are_sent.Given as goal

abbrev pub invariant-loop-moves : goal.invariant-loop-moves
invariant-loop-moves l = record { version : l.version ≡ l.moves-index + 1; latest : IsLatest l.version l.store }
