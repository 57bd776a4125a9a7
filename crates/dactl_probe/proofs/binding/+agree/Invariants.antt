use Rattle.std.proofs.Common.{◌≡◌, map, drop}
use Rattle.std.specs.List.{list_all}
use Rattle.dactl_model.specs.Readings.{told, told_all}
use Rattle.dactl_probe.specs.Bindings.{is_first}
use Rattle.dactl_probe.proofs.binding.+agree.Given as goal

-- what the pairs so far answer leaves the answer to the rest
abbrev pub invariant-each_agrees-loop-place : goal.invariant-each_agrees-loop-place
invariant-each_agrees-loop-place l =
    list_all (is_first (told l.readings l.whole l.root).pairs) (told_all (map (told l.readings) l.patterns) l.targets).pairs ≡ list_all (is_first (told l.readings l.whole l.root).pairs) (told_all (map (told l.readings) (drop l.place l.patterns)) (drop l.place l.targets)).pairs
