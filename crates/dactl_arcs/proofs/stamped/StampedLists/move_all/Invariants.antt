use Rattle.std.proofs.Common.{◌≡◌, ◌∷◌, [], map, length}
use Rattle.dactl_arcs.specs.Pool.{arcs_into}
use Rattle.dactl_arcs.specs.Kept.{IsKept}
use Rattle.dactl_arcs.specs.Moves.{retargeted}
use Rattle.dactl_arcs.proofs.stamped.StampedLists.move_all.Given as goal

-- what is moved already is where the map over all records sends it
abbrev pub invariant-loop-arc : goal.invariant-loop-arc
invariant-loop-arc l =
    IsKept l.initial.self l.self × (map (retargeted ((l.from, l.to) ∷ [])) l.self.arcs ≡ map (retargeted ((l.from, l.to) ∷ [])) l.initial.self.arcs)
    × (l.self.changed ≡ l.initial.self.changed) × (l.self.newest ≡ l.initial.self.newest)

abbrev pub decreases-loop-arc : goal.decreases-loop-arc
decreases-loop-arc l = length (arcs_into l.self l.from)
