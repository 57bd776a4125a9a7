use Rattle.std.proofs.Common.{◌≡◌, map, take}
use Rattle.dactl_model.specs.Firing.{fresh_arc}
use Rattle.dactl_plain.specs.Sites.{map_of}
use Rattle.dactl_plain.proofs.firing.Site.new_arcs.Given as goal

abbrev pub invariant-loop-arc : goal.invariant-loop-arc
invariant-loop-arc l = l.after.items ≡ map (fresh_arc l.self.first l.self.bound.now (map_of l.self)) (take l.arc-index l.arcs)
