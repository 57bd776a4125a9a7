-- Paths in trees.
use Rattle.std.specs.Prelude.{ℕ, ◌+◌, Bool, ◌||◌, ◌&&◌, List, sum, cond}
use Rattle.dactl_decide.specs.declared.path_tree.PathTree.{PathTree}
use Rattle.dactl_decide.specs.declared.path_tree.PathTree.TheOpen.{PathTree-F}
use Rattle.dactl_decide.specs.declared.path_tree.PathTree.TheFolds.{fold-PathTree}
use Rattle.dactl_decide.specs.Paths.{is_root, tests_below}

-- One level of a tree.
abbrev pub has_level : PathTree-F (List ℕ → Bool) → List ℕ → Bool
has_level t path = (t.tested && is_root path) || tests_below t.below.items path

-- the tree has the path
abbrev pub has : PathTree → List ℕ → Bool
has = fold-PathTree (List ℕ → Bool) has_level

-- One level of the count.
abbrev pub size_level : PathTree-F ℕ → ℕ
size_level t = sum t.below.items + cond t.tested 1 0

-- how many paths the tree has
abbrev pub size : PathTree → ℕ
size = fold-PathTree ℕ size_level
