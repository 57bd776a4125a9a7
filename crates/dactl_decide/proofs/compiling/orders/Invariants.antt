use Rattle.std.proofs.Common.{◌≡◌, map, take}
use Rattle.dactl_decide.specs.Orders.{is_orderly}
use Rattle.dactl_decide.proofs.compiling.orders.Given as goal

-- what is found of the rules so far
abbrev pub invariant-loop-rule : goal.invariant-loop-rule
invariant-loop-rule l = l.orderly.items ≡ map is_orderly (take l.rule-index l.rules)
