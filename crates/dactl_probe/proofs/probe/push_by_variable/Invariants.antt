use Rattle.std.proofs.Common.{◌≡◌, take}
use Rattle.dactl_model.specs.RuleTold.{bindings_told}
use Rattle.dactl_probe.proofs.probe.push_by_variable.Given as goal

-- the nodes of the variables so far are in the footprint
abbrev pub invariant-loop-variable : goal.invariant-loop-variable
invariant-loop-variable l =
    l.footprint ≡ record l.initial.footprint { bindings = take l.variable (bindings_told l.initial.footprint.readings l.node l.rule) }
