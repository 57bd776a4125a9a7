use Rattle.std.proofs.Common.{◌≡◌, length, map, take, drop}
use Rattle.dactl_store.specs.Layout.{arc_of, greatest}
use Rattle.dactl_store.proofs.reading.read_along.Given as goal

-- the targets and the greatest so far
abbrev pub invariant-loop-place : goal.invariant-loop-place
invariant-loop-place l = record {
  targets : take l.place l.targets.1.0 ≡ map (λ a. (arc_of a).target) (take l.place (drop l.node.span.first l.arcs.arcs));
  count : l.targets.0 ≡ l.node.span.count;
  long : length l.targets.1.0 ≡ 16;
  version : l.version ≡ greatest l.node.version (take l.place (drop l.node.span.first l.arcs.changed));
}
