use Rattle.std.proofs.Common.{◌≡◌, map, drop}
use Rattle.dactl_model.specs.Readings.{told, told_all}
use Rattle.dactl_probe.specs.Bindings.{first_node}
use Rattle.dactl_probe.proofs.binding.+first.Given as goal

-- nothing was found so far
abbrev pub invariant-first_bound_each-loop-place : goal.invariant-first_bound_each-loop-place
invariant-first_bound_each-loop-place l =
    first_node (told_all (map (told l.readings) l.patterns) l.targets).pairs l.variable ≡ first_node (told_all (map (told l.readings) (drop l.place l.patterns)) (drop l.place l.targets)).pairs l.variable
