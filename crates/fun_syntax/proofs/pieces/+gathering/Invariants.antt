use Rattle.std.proofs.Common.{◌≡◌, ◌++◌, take}
use Rattle.std.specs.List.{flat_map}
use Rattle.fun_syntax.specs.Pieces.{pieces_of}
use Rattle.fun_syntax.proofs.pieces.+gathering.Given as goal

abbrev pub invariant-gather_all-loop-tree : goal.invariant-gather_all-loop-tree
invariant-gather_all-loop-tree l = l.found.items ≡ l.initial.found.items ++ flat_map pieces_of (take l.tree-index l.trees)
