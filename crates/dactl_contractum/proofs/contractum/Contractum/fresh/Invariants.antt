use Rattle.std.proofs.Common.{◌≡◌, take, map}
use Rattle.dactl_contractum.specs.Drawing.{sketch_of, made_in}
use Rattle.dactl_contractum.specs.Meant.{nodes_with}
use Rattle.dactl_contractum.proofs.contractum.Contractum.fresh.Given as goal

abbrev pub invariant-loop-number : goal.invariant-loop-number
invariant-loop-number l = l.fresh.items ≡ nodes_with l.variables (made_in l.self.drawing) (map sketch_of (take l.number l.sketch-items)) (take l.number l.symbols)
