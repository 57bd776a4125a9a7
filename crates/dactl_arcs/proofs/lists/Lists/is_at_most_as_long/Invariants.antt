use Rattle.std.proofs.Common.{◌≡◌, ◌+◌, length}
use Rattle.std.specs.Option.{IfSome}
use Rattle.dactl_arcs.specs.Pool.{rest_of_walk}
use Rattle.dactl_arcs.specs.Linked.{IsIn, list_of}
use Rattle.dactl_arcs.proofs.lists.Lists.is_at_most_as_long.Given as goal

-- as many arcs of the one list are behind as of the other
abbrev pub invariant-loop-left : goal.invariant-loop-left
invariant-loop-left l =
    IfSome l.left (IsIn l.self l.one) × IfSome l.right (IsIn l.self l.other)
    × (length (rest_of_walk l.left (list_of l.self l.one)) + length (list_of l.self l.other) ≡ length (rest_of_walk l.right (list_of l.self l.other)) + length (list_of l.self l.one))

abbrev pub decreases-loop-left : goal.decreases-loop-left
decreases-loop-left l = length (rest_of_walk l.left (list_of l.self l.one))
