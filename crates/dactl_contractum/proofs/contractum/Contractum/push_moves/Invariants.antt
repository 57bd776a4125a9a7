use Rattle.std.proofs.Common.{◌≡◌, ◌++◌, map, take}
use Rattle.dactl_contractum.specs.Drawing.{target_of, made_in}
use Rattle.dactl_contractum.specs.Meant.{moves_by}
use Rattle.dactl_contractum.proofs.contractum.Contractum.push_moves.Given as goal

abbrev pub invariant-loop-number : goal.invariant-loop-number
invariant-loop-number l = l.moves.items ≡ l.initial.moves.items ++ moves_by l.variables (made_in l.self.drawing) (take l.number l.parts) (map target_of (take l.number l.self.targets.items))
