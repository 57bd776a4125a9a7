use Rattle.std.proofs.Common.{◌≡◌, map, drop}
use Rattle.dactl_probe.specs.Findings.{lesser, found, found_all}
use Rattle.dactl_probe.proofs.finding.+look.Given as goal

-- what was found so far and what the rest gives is what all give
abbrev pub invariant-look_each-loop-place : goal.invariant-look_each-loop-place
invariant-look_each-loop-place l =
    found_all (map (found l.readings) l.patterns) l.targets ≡ lesser l.finding (found_all (map (found l.readings) (drop l.place l.patterns)) (drop l.place l.targets))
