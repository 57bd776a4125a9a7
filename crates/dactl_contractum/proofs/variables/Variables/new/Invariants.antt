use Rattle.std.proofs.Common.{◌≡◌, ℕ, List, take}
use Rattle.dactl_names.specs.Found.{found}
use Rattle.dactl_contractum.specs.Numbers.{variable_number}
use Rattle.dactl_contractum.proofs.variables.Variables.new.Given as goal

abbrev pub invariant-loop-number : goal.invariant-loop-number
invariant-loop-number l = (w : List ℕ) → found l.numbers w ≡ variable_number (take l.number l.name-items) w
