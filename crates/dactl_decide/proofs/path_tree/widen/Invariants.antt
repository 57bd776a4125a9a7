use Rattle.std.proofs.Common.{◌≡◌, ◌≤◌, ℕ, List, map, length}
use Rattle.dactl_decide.specs.Paths.{tests_below}
use Rattle.dactl_decide.specs.PathTrees.{has}
use Rattle.dactl_decide.proofs.path_tree.widen.Given as goal

-- the new trees have no paths
abbrev pub invariant-loop : goal.invariant-loop
invariant-loop l =
    record { long : l.counter ≤ length l.trees.items; same : (path : List ℕ) → tests_below (map has l.trees.items) path ≡ tests_below (map has l.initial.trees.items) path }
