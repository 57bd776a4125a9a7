use Rattle.std.proofs.Common.{◌≡◌, map}
use Rattle.dactl_model.specs.Readings.{told, told_all}
use Rattle.dactl_probe.specs.Bindings.{with_nodes}
use Rattle.dactl_probe.proofs.Pushing.{pairs_from}
use Rattle.dactl_probe.proofs.binding.+push.Given as goal

-- the nodes so far and those of the rest are those of all
abbrev pub invariant-push_each_bound-loop-place : goal.invariant-push_each_bound-loop-place
invariant-push_each_bound-loop-place l =
    with_nodes l.initial.footprint (told_all (map (told l.initial.footprint.readings) l.patterns) l.targets).pairs ≡ with_nodes l.footprint (pairs_from l.initial.footprint.readings l.patterns l.targets l.place)
