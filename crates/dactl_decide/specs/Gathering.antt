-- What is gathered of the first rules of a program, for each symbol.
use Rattle.std.specs.Prelude.{◌≡◌, ℕ, List, length, take, Some, slice_get}
use Rattle.std.specs.declared.alloc.Global.{Global}
use Rattle.std.specs.declared.vec.Vec.{Vec}
use Rattle.dactl_model.specs.declared.program.Rule.{Rule}
use Rattle.dactl_decide.specs.declared.path_tree.PathTree.{PathTree}
use Rattle.dactl_decide.specs.Paths.{symbol_tests}
use Rattle.dactl_decide.specs.PathTrees.{has}
use Rattle.dactl_decide.specs.Decisions.{AreRulesBelow}

-- a tree for each symbol, of the paths at which the patterns of the first k rules test nodes
pub record AreTreesBelow (rules : List Rule) (symbols k : ℕ) (trees : List PathTree) : Type 0 where
  pub long : length trees ≡ symbols
  pub each : (f : ℕ) (tree : PathTree) → slice_get trees f ≡ Some tree → (path : List ℕ) → has tree path ≡ symbol_tests (take k rules) f path

-- the numbers of each symbol's rules, of the first k rules
pub record AreListsBelow (rules : List Rule) (symbols k : ℕ) (lists : List (Vec ℕ Global)) : Type 0 where
  pub long : length lists ≡ symbols
  pub each : (f : ℕ) (numbers : Vec ℕ Global) → slice_get lists f ≡ Some numbers → AreRulesBelow rules k f numbers.items
