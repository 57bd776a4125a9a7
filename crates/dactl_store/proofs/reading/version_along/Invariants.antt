use Rattle.std.proofs.Common.{◌≡◌, take, drop}
use Rattle.dactl_store.specs.Layout.{greatest}
use Rattle.dactl_store.proofs.reading.version_along.Given as goal

-- the greatest so far
abbrev pub invariant-loop-place : goal.invariant-loop-place
invariant-loop-place l = l.version ≡ greatest l.node.version (take l.place (drop l.node.span.first l.arcs.changed))
