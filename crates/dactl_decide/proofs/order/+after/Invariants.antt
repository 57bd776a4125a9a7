use Rattle.std.proofs.Common.{◌≡◌, map, drop}
use Rattle.dactl_decide.specs.Orders.{after, after_all}
use Rattle.dactl_decide.proofs.order.+after.Given as goal

-- the patterns so far lead to the number from which the rest goes on
abbrev pub invariant-after_each-loop-pattern : goal.invariant-after_each-loop-pattern
invariant-after_each-loop-pattern l =
    after_all (map after l.patterns) l.initial.next ≡ after_all (map after (drop l.pattern-index l.patterns)) l.next
