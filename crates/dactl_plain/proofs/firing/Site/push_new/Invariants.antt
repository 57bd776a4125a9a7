use Rattle.std.proofs.Common.{◌≡◌, ◌++◌, map, take}
use Rattle.dactl_model.specs.Firing.{fresh_node}
use Rattle.dactl_plain.specs.Sites.{map_of}
use Rattle.dactl_plain.proofs.firing.Site.push_new.Given as goal

abbrev pub invariant-loop-node : goal.invariant-loop-node
invariant-loop-node l =
    l.nodes ≡ l.initial.nodes ++ map (fresh_node l.self.first l.self.bound.now (map_of l.self)) (take l.node-index l.fresh)
