use Rattle.std.proofs.Common.{◌+◌, ◌≤◌}
use Rattle.dactl_store.specs.Redirecting.{IsLatest}
use Rattle.dactl_firing.proofs.tests.firings.Given as goal

-- the list still has room for all nodes, and the next entry's version is the latest
abbrev pub invariant-loop-entry : goal.invariant-loop-entry
invariant-loop-entry l = (l.store.room.nodes ≤ l.woken.room) × IsLatest (l.entry + 1) l.store
