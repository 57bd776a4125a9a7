use Rattle.std.proofs.Common.{◌≡◌, ℕ, List, take, map}
use Rattle.dactl_contractum.specs.Drawing.{sketch_of}
use Rattle.dactl_names.specs.Found.{found}
use Rattle.dactl_contractum.specs.Numbers.{node_number}
use Rattle.dactl_contractum.proofs.contractum.given.Given as goal

abbrev pub invariant-loop-number : goal.invariant-loop-number
invariant-loop-number l = (w : List ℕ) → found l.numbers w ≡ node_number (map sketch_of (take l.number l.made)) w
